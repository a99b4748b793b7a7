-- Sets and relations that are put together of typed formulas are typed.
use Rattle.std.proofs.Common.{◌≡◌, ◌∙◌, sym, ap, subst, refl, ℕ, true, false, List, [], ◌∷◌, map, Option, Some, IfSome, slice_get}
use Rattle.std.specs.List.{AllByRecursion}
use Rattle.std.specs.Option.{option_and_then, option_map_or}
use Rattle.formula_core.specs.declared.Binder.{Binder}
use Rattle.formula_core.specs.declared.Binder.TheVariants as binder
use Rattle.formula_core.specs.declared.Op.{Op}
use Rattle.formula_core.specs.declared.Op.TheVariants as op
use Rattle.formula_core.specs.declared.Ty.{Ty}
use Rattle.formula_core.specs.declared.Ty.TheVariants as ty
use Rattle.formula_core.specs.declared.Formula.{Formula}
use Rattle.formula_core.specs.declared.Formula.TheVariants as formula
use Rattle.formula_core.specs.declared.row.Row.TheVariants.{Nullary, Unary, Binary}
use Rattle.formula_core.specs.declared.row.NullaryRow.{NullaryRow}
use Rattle.formula_core.specs.declared.row.NullaryRow.TheVariants as nullary
use Rattle.formula_core.specs.declared.row.UnaryRow.{UnaryRow}
use Rattle.formula_core.specs.declared.row.UnaryRow.TheVariants as unary
use Rattle.formula_core.specs.declared.row.BinaryRow.{BinaryRow}
use Rattle.formula_core.specs.declared.row.BinaryRow.TheVariants as binary
use Rattle.formula_core.specs.Formulas.{joined}
use Rattle.formula_core.specs.Identifiers.{carriers}
use Rattle.formula_core.specs.Rows.{row_of}
use Rattle.formula_core.specs.Typed.{Stands}
use Rattle.formula_core.specs.Types.{is_value_type, same_type}
use Rattle.formula_core.proofs.Equations.{identifiers-Bound}
use Rattle.formula_core.proofs.Keeping.{both}
use Rattle.formula_core.proofs.Schemes.{value-Int}
use Rattle.formula_core.proofs.Weakening.{both_true}
use Rattle.formula_core.proofs.Wellness.{well-Bound}
use Rattle.formula_core.proofs.WholeSets.{same_type_refl, value-Pow, value-Pair}
use Rattle.well_defined.specs.Predicates.{conjunction, implication, disjunction, member, domain}
use Rattle.well_defined.proofs.Types.{type-Bound}
use Rattle.rule_table.specs.SetLaws.{below, new, for_all, there_is}
use Rattle.rule_table.specs.Shapes.{on_none, on_one, two_operands, two_bound, negation, equal, subset, maplet, empty, range, converse, product, relations, applied}
use Rattle.made_rules.proofs.Typed.{Env, Carried, Is}
use Rattle.made_rules.proofs.Forms.{carried, retyped, OpenedBinder}
use Rattle.made_rules.proofs.Makers.{lettered, values_of, carried_set, carried_members, carried_pair, carried_left, carried_right, carried_truth, none_is, one_is, two_are, not_is, and_is, or_is, implies_is, equal_is, member_is, quantified_is, moved_is}
use Rattle.made_rules.proofs.Operands.{OfNone, OfOne, OfTwo, on_none_if, on_one_if, on_two_if, under_two_if, power_exact, pair_left, pair_right}

pub pair_value : (t u : Ty) → is_value_type t ≡ true → is_value_type u ≡ true → is_value_type (ty.Pair t u) ≡ true
pair_value t u v w = value-Pair t u ∙ both_true _ _ v w

pub set_value : (t : Ty) → is_value_type t ≡ true → is_value_type (ty.Pow t) ≡ true
set_value t v = value-Pow t ∙ v

module _ {env : Env} {bound : List Ty} where
  pub re : {t u : Ty} {f : Formula} → t ≡ u → Is env bound t f → Is env bound u f
  re {t} {u} {f} e h = retyped env bound t u f e h

  pub neg : {p : Formula} → Is env bound ty.Truth p → Is env bound ty.Truth (negation p)
  neg {p} h = not_is env bound p h

  pub conj : {p q : Formula} → Is env bound ty.Truth p → Is env bound ty.Truth q → Is env bound ty.Truth (conjunction p q)
  conj {p} {q} g h = and_is env bound p q g h

  pub disj : {p q : Formula} → Is env bound ty.Truth p → Is env bound ty.Truth q → Is env bound ty.Truth (disjunction p q)
  disj {p} {q} g h = or_is env bound p q g h

  pub impl : {p q : Formula} → Is env bound ty.Truth p → Is env bound ty.Truth q → Is env bound ty.Truth (implication p q)
  impl {p} {q} g h = implies_is env bound p q g h

  pub eq : {t : Ty} {e f : Formula} → is_value_type t ≡ true → Is env bound t e → Is env bound t f → Is env bound ty.Truth (equal e f)
  eq {t} {e} {f} v g h = equal_is env bound t v e f g h

  pub mem : {t : Ty} {e s : Formula} → is_value_type t ≡ true → Is env bound t e → Is env bound (ty.Pow t) s → Is env bound ty.Truth (member e s)
  mem {t} {e} {s} v g h = member_is env bound t v e s g h

  pub sub : {s u : Formula} (t : Ty) → is_value_type t ≡ true → Is env bound (ty.Pow t) s → Is env bound (ty.Pow t) u → Is env bound ty.Truth (subset s u)
  sub {s} {u} t v g h = two_are env bound op.Subset binary.Inclusion refl (lettered t ty.Int) (values_of t ty.Int v value-Int) s u g h (carried_truth env)

  pub pairs : {t u : Ty} {e f : Formula} → is_value_type t ≡ true → is_value_type u ≡ true → Is env bound t e → Is env bound u f → Is env bound (ty.Pair t u) (maplet e f)
  pairs {t} {u} {e} {f} v w g h =
      subst (λ x. Is env bound (ty.Pair t u) (formula.Node op.Maplet (e ∷ f ∷ []) x)) (λ i. ty.Pair (sym g.type i) (sym h.type i))
      (two_are env bound op.Maplet binary.Maplet refl (lettered t u) (values_of t u v w) e f g h (carried_pair env t u (carried env bound t e g) (carried env bound u f h)))

  -- relations between two types
  module _ {r : Formula} (t u : Ty) (v : is_value_type t ≡ true) (w : is_value_type u ≡ true) (h : Is env bound (ty.Pow (ty.Pair t u)) r) where
    relation_carried : Carried env (ty.Pair t u)
    relation_carried = carried_members env (ty.Pair t u) (carried env bound (ty.Pow (ty.Pair t u)) r h)

    pub from_carried : Carried env t
    from_carried = carried_left env t u relation_carried

    pub to_carried : Carried env u
    to_carried = carried_right env t u relation_carried

    pub dom : Is env bound (ty.Pow t) (domain r t)
    dom = one_is env bound op.Domain unary.Domain refl (lettered t u) (values_of t u v w) r h (carried_set env t from_carried)

    pub ran : Is env bound (ty.Pow u) (range r u)
    ran = one_is env bound op.Range unary.Range refl (lettered t u) (values_of t u v w) r h (carried_set env u to_carried)

    pub turned : Is env bound (ty.Pow (ty.Pair u t)) (converse r t u)
    turned = one_is env bound op.Converse unary.Converse refl (lettered t u) (values_of t u v w) r h
        (carried_set env (ty.Pair u t) (carried_pair env u t to_carried from_carried))

    pub value_at : {e : Formula} → Is env bound t e → Is env bound u (applied r e u)
    value_at {e} g = two_are env bound op.Apply binary.Application refl (lettered t u) (values_of t u v w) r e h g to_carried

  module _ {s r : Formula} (t u : Ty) (v : is_value_type t ≡ true) (w : is_value_type u ≡ true) (g : Is env bound (ty.Pow t) s) (h : Is env bound (ty.Pow u) r) where
    pair_carried : Carried env (ty.Pair t u)
    pair_carried = carried_pair env t u (carried_members env t (carried env bound (ty.Pow t) s g)) (carried_members env u (carried env bound (ty.Pow u) r h))

    pub times : Is env bound (ty.Pow (ty.Pair t u)) (product s r t u)
    times = two_are env bound op.Product binary.Product refl (lettered t u) (values_of t u v w) s r g h (carried_set env (ty.Pair t u) pair_carried)

    pub arrows : (o : Op) → row_of o ≡ Binary binary.RelationSet → Is env bound (ty.Pow (ty.Pow (ty.Pair t u))) (relations o s r t u)
    arrows o e = two_are env bound o binary.RelationSet e (lettered t u) (values_of t u v w) s r g h
        (carried_set env (ty.Pow (ty.Pair t u)) (carried_set env (ty.Pair t u) pair_carried))

  pub nothing : (t u : Ty) → u ≡ ty.Pow t → is_value_type t ≡ true → Carried env t → Is env bound u (empty u)
  nothing t u e v c = subst (λ x. Is env bound x (formula.Node op.EmptySet [] x)) (sym e)
      (none_is env bound op.EmptySet nullary.EmptySet refl (lettered t ty.Int) (values_of t ty.Int v value-Int) (carried_set env t c))

  pub index : (t : Ty) (i : ℕ) → slice_get bound i ≡ Some t → Carried env t → Is env bound t (formula.Bound i t)
  index t i e c = record {
    type = type-Bound i t;
    well = well-Bound i t bound ∙ ap (λ o. option_map_or (λ u. same_type u t) o false) e ∙ same_type_refl t;
    names = subst (AllByRecursion (Stands env)) (sym (identifiers-Bound i t)) c;
  }

  -- the member of a set of this type
  pub member_of : {t : Ty} {e s : Formula} (α : Ty) (v : OfTwo env bound binary.Membership t e s) → ty.Pow v.letters.alpha ≡ ty.Pow α → Is env bound α e
  member_of {t} {e} {s} α v k = retyped env bound v.letters.alpha α e (power_exact v.letters.alpha α k) v.left

  -- the parts of a pair of this type
  pub parts_of : {c : Ty} {e f : Formula} (α β : Ty) (m : OfTwo env bound binary.Maplet c e f) → c ≡ ty.Pair α β → Is env bound α e × Is env bound β f
  parts_of {c} {e} {f} α β m k = (
    retyped env bound m.letters.alpha α e (pair_left m.letters.alpha m.letters.beta α β (sym m.whole ∙ k)) m.left,
    retyped env bound m.letters.beta β f (pair_right m.letters.alpha m.letters.beta α β (sym m.whole ∙ k)) m.right,
  )

own_carried : (env : Env) (t : Ty) → Carried env t → AllByRecursion (Stands env) (joined (map carriers (t ∷ [])))
own_carried env t c = both (Stands env) (carriers t) [] c tt

module _ {env : Env} {bound : List Ty} (t : Ty) (v : is_value_type t ≡ true) (c : Carried env t) where
  pub each : {p : Formula} → Is env (t ∷ bound) ty.Truth p → Is env bound ty.Truth (for_all t p)
  each {p} h = quantified_is env bound binder.ForAll refl refl (t ∷ []) (both_true _ _ v refl) (own_carried env t c) p h

  pub exists : {p : Formula} → Is env (t ∷ bound) ty.Truth p → Is env bound ty.Truth (there_is t p)
  exists {p} h = quantified_is env bound binder.Exists refl refl (t ∷ []) (both_true _ _ v refl) (own_carried env t c) p h

  pub fresh : Is env (t ∷ bound) t (new t)
  fresh = index {bound = t ∷ bound} t 0 refl c

pub deeper : {env : Env} {bound : List Ty} {u : Ty} {f : Formula} (t : Ty) → Is env bound u f → Is env (t ∷ bound) u (below f)
deeper {env} {bound} {u} {f} t h = moved_is env bound (t ∷ []) u f h

-- what is made of operands
module _ {env : Env} {bound : List Ty} {X : Type 0} (Q : X → Type 0) {t : Ty} {f : Formula} where
  pub none : (o : Op) (row : NullaryRow) → row_of o ≡ Nullary row → Is env bound t f → (made : Option X) → (OfNone row t → IfSome made Q) → IfSome (on_none o f made) Q
  none o row r h made k = on_none_if env bound Q t f h o row r made k

  pub one : (o : Op) (row : UnaryRow) → row_of o ≡ Unary row → Is env bound t f → (make : Formula → Option X) → ((p : Formula) → OfOne env bound row t p → IfSome (make p) Q)
      → IfSome (on_one o f make) Q
  one o row r h make k = on_one_if env bound Q t f h o row r make k

  pub two : (o : Op) (row : BinaryRow) → row_of o ≡ Binary row → Is env bound t f → (make : Formula × Formula → Option X)
      → ((p q : Formula) → OfTwo env bound row t p q → IfSome (make (p, q)) Q) → IfSome (option_and_then make (two_operands o f)) Q
  two o row r h make k = on_two_if env bound Q t f h o row r make k

  pub in_set : Is env bound t f → (make : Formula × Formula → Option X)
      → ((p q : Formula) → OfTwo env bound binary.Membership t p q → IfSome (make (p, q)) Q) → IfSome (option_and_then make (two_operands op.Member f)) Q
  in_set h make k = on_two_if env bound Q t f h op.Member binary.Membership refl make k

  pub pair_of : Is env bound t f → (make : Formula × Formula → Option X)
      → ((p q : Formula) → OfTwo env bound binary.Maplet t p q → IfSome (make (p, q)) Q) → IfSome (option_and_then make (two_operands op.Maplet f)) Q
  pair_of h make k = on_two_if env bound Q t f h op.Maplet binary.Maplet refl make k

  pub bound_two : (b : Binder) → Is env bound t f → (make : List Ty × Formula × Formula → Option X)
      → ((types : List Ty) (p q : Formula) → OpenedBinder env bound b types (p ∷ q ∷ []) t → IfSome (make (types, p, q)) Q) → IfSome (option_and_then make (two_bound b f)) Q
  bound_two b h make k = under_two_if env bound Q t f h b make k
