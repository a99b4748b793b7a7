-- The rules of a function's value keep truth.
use Rattle.std.proofs.Common.{Bool, IfSome, List, None, Option, Some, [], ap, refl, subst, sym, true, ℕ, ◌&&◌, ◌∙◌, ◌∷◌, ◌≡◌}
use Rattle.formula_core.proofs.Types.{same_type_exact}
use Rattle.formula_core.proofs.Weakening.{both_true, first_true, second_true}
use Rattle.formula_core.specs.Types.{same_type}
use Rattle.formula_core.specs.Wellness.{type_of}
use Rattle.formula_core.specs.declared.Formula.{Formula, out-Formula}
use Rattle.formula_core.specs.declared.Formula.TheOpen.{Formula-F, Node as NodeF}
use Rattle.formula_core.specs.declared.Formula.TheVariants.{Node}
use Rattle.formula_core.specs.declared.Op.{Op}
use Rattle.formula_core.specs.declared.Op.TheVariants as op
use Rattle.formula_core.specs.declared.Ty.{Ty}
use Rattle.formula_core.specs.declared.Ty.TheVariants as ty
use Rattle.formula_core.specs.declared.formula.Formula.TheViews.{roll-Formula, roll-out-Formula, rolls-Node}
use Rattle.well_defined.specs.Conditions.{wd_of}
use Rattle.well_defined.specs.Predicates.{domain, member}
use Rattle.rule_table.specs.Rows.{arrow_at, fun_eq, fun_in, function_in, is_function_arrow}
use Rattle.rule_table.specs.Shapes.{applied}
use Rattle.rule_table.specs.declared.kind.RuleKind.TheVariants as kind
use Rattle.meanings.specs.Denotations.{holds, denotation}
use Rattle.meanings.specs.Operations.{contains, implies, is_between, is_single_valued, of_list, relates, to_sort, truth_value}
use Rattle.meanings.specs.Universes.{Valuation, Universe, cast, every, some}
use Rattle.meanings.specs.Values.{Sort, Denotation, Value, pair_sort, power_sort, sort}
use Rattle.meanings.proofs.Bools.{implied_to}
use Rattle.meanings.proofs.Casts.{cast_own, cast_known}
use Rattle.meanings.proofs.Denotations.{sort-Pow, sort_of}
use Rattle.meanings.proofs.Equalities.{equation_holds}
use Rattle.meanings.proofs.Fitting.{IsWellIn, well_parts}
use Rattle.meanings.proofs.Quantifiers.{every_tells}
use Rattle.meanings.proofs.Truths.{at_node}
use Rattle.meanings.proofs.Types.{pair_parts, type-Node}
use Rattle.true_laws.proofs.Memberships.{in_made, maplet_means, maplet_type, member_made, member_means, member_types}
use Rattle.true_laws.proofs.Words.{relation_sort}
use Rattle.true_rules.proofs.NewNames.{Identifiers}
use Rattle.true_rules.proofs.Rows.{IsLeft, Row, True, after, at_relation, at_two, each, each_made, if_so, keeping, none_after, told}

-- an arrow of functions between two sets
abbrev Arrow : Formula → Formula × Formula → Type 0
Arrow f sets = (o : Op) × (u : Ty) × (is_function_arrow o ≡ true) × (f ≡ Node o (sets.0 ∷ sets.1 ∷ []) u)

arrow_form : (x : Formula-F Formula) → IfSome (arrow_at x) (Arrow (roll-Formula x))
arrow_form (NodeF o [] t) = if_so _ (is_function_arrow o) None (λ is. tt)
arrow_form (NodeF o (a ∷ []) t) = if_so _ (is_function_arrow o) None (λ is. tt)
arrow_form (NodeF o (a ∷ b ∷ []) t) =
    if_so _ (is_function_arrow o) (Some (a, b)) (λ is. (o, t, is, rolls-Node o (a ∷ b ∷ []) t))
arrow_form (NodeF o (a ∷ b ∷ c ∷ parts) t) = if_so _ (is_function_arrow o) None (λ is. tt)
arrow_form _ = tt

-- a formula `f ∈ s a t` for such an arrow a
pub record IsFunctionIn (h f t : Formula) : Type 0 where
  pub s : Formula
  pub o : Op
  pub u : Ty
  pub v : Ty
  pub arrow : is_function_arrow o ≡ true
  pub is : h ≡ Node op.Member (f ∷ Node o (s ∷ t ∷ []) u ∷ []) v

function_form : (h : Formula) → IfSome (function_in h) (λ x. IsFunctionIn h x.0 x.1)
function_form h = at_two _ op.Member h _ (λ f set v is. each_made _ (arrow_at (out-Formula set)) _ (λ sets e.
    let w = told (Arrow (roll-Formula (out-Formula set))) (arrow_at (out-Formula set)) sets
    (arrow_form (out-Formula set)) e in
    let set_is : set ≡ Node w.0 (sets.0 ∷ sets.1 ∷ []) w.1 = sym (roll-out-Formula set) ∙ w.3 in
    record { s = sets.0; o = w.0; u = w.1; v = v; arrow = w.2; is = is ∙ (λ i. Node op.Member (f ∷ set_is i ∷ []) v) }))

module _ {carrier : List ℕ → Type 0} (U : Universe carrier) where
  -- what an arrow of functions asks first: the relation leads from the one set to the other, and gives no value two
  abbrev Asks : (a b : Sort) (s t : Denotation carrier) → (Value carrier (pair_sort a b) → Bool) → Type 0
  Asks a b s t f = (is_between U a b s t f ≡ true) × (is_single_valued U a b f ≡ true)

  split : (p q : Bool) → (p && q) ≡ true → (p ≡ true) × (q ≡ true)
  split p q h = (first_true p q h, second_true p q h)

  asked : (o : Op) → is_function_arrow o ≡ true
      → (a b : Sort) (s t : Denotation carrier) (f : Value carrier (pair_sort a b) → Bool)
      → of_list U o (power_sort (power_sort (pair_sort a b))) (s ∷ t ∷ []) f ≡ true → Asks a b s t f
  asked op.PartialFunctions is a b s t f h = split _ _ h
  asked op.TotalFunctions is a b s t f h = split _ _ (first_true _ _ h)
  asked op.PartialInjections is a b s t f h = split _ _ (first_true _ _ h)
  asked op.TotalInjections is a b s t f h = split _ _ (first_true _ _ (first_true _ _ h))
  asked op.PartialSurjections is a b s t f h = split _ _ (first_true _ _ h)
  asked op.TotalSurjections is a b s t f h = split _ _ (first_true _ _ (first_true _ _ h))
  asked op.Bijections is a b s t f h = split _ _ (first_true _ _ (first_true _ _ (first_true _ _ h)))
  asked _ is a b s t f h = absurd cc

  module _ (names : Valuation carrier) (h f t : Formula) (function : IsFunctionIn h f t) (α β : Ty)
      (relation : type_of f ≡ ty.Pow (ty.Pair α β)) where
    abbrev a : Sort
    a = sort α

    abbrev b : Sort
    b = sort β

    abbrev M : Formula → Denotation carrier
    M g = denotation U names g []

    -- the relation at its sort
    abbrev pairs : Value carrier (pair_sort a b) → Bool
    pairs = cast U (power_sort (pair_sort a b)) (M f)

    asks : IsWellIn h [] → True U names h → Asks a b (M function.s) (M t) pairs
    asks well held =
        let o = function.o in let sets = function.s ∷ t ∷ [] in
        let f_is : (power_sort (pair_sort a b), pairs) ≡ M f =
        cast_known U (M f) (power_sort (pair_sort a b)) (relation_sort U names f α β relation []) in
        let made : truth_value U (in_made U names o (M function.s ∷ M t ∷ []) (power_sort (pair_sort a b), pairs))
        ≡ true =
        ap (λ z. truth_value U (in_made U names o (M function.s ∷ M t ∷ []) z)) f_is
        ∙ sym (ap (truth_value U)
        (member_made U names f o sets function.u function.v [] (subst (λ h. IsWellIn h []) function.is well) []))
        ∙ subst (True U names) function.is held in
        asked o function.arrow a b (M function.s) (M t) pairs made

    in_range : is_between U a b (M function.s) (M t) pairs ≡ true → (x : Value carrier a) (y : Value carrier b)
        → pairs (x, y) ≡ true → contains U (M t) b y ≡ true
    in_range held x y there =
        let at_x = every_tells U a
        (λ x. every U b (λ y. implies (pairs (x, y)) (contains U (M function.s) a x && contains U (M t) b y))) held x in
        let at_y = every_tells U b
        (λ y. implies (pairs (x, y)) (contains U (M function.s) a x && contains U (M t) b y)) at_x y in
        second_true (contains U (M function.s) a x) _ (implied_to (pairs (x, y)) _ at_y there)

    one_value : is_single_valued U a b pairs ≡ true → (x : Value carrier a) (y z : Value carrier b)
        → pairs (x, y) ≡ true → pairs (x, z) ≡ true → y ≡ z
    one_value held x y z here there =
        let at_x = every_tells U a
        (λ x. every U b (λ y. every U b (λ z. implies (pairs (x, y) && pairs (x, z)) (U.same b y z)))) held x in
        let at_y = every_tells U b
        (λ y. every U b (λ z. implies (pairs (x, y) && pairs (x, z)) (U.same b y z))) at_x y in
        let at_z = every_tells U b (λ z. implies (pairs (x, y) && pairs (x, z)) (U.same b y z)) at_y z in
        (U.same_exact b y z).0 (implied_to (pairs (x, y) && pairs (x, z)) _ at_z (both_true _ _ here there))

    -- an argument at its sort, and the function's value there
    module _ (e : Formula) (argument : type_of e ≡ α) where
      abbrev x : Value carrier a
      x = cast U a (M e)

      e_is : (a, x) ≡ M e
      e_is = cast_known U (M e) a (sort_of U names e [] ∙ ap sort argument)

      abbrev value : Value carrier b
      value = U.choose b (λ y. pairs (x, y))

      value_is : M (applied f e β) ≡ (b, value)
      value_is =
          at_node U names op.Apply (f ∷ e ∷ []) β b refl []
          ∙ (λ i. (b, U.choose b (relates U (M f) (sym e_is i).0 b (sym e_is i).1)))

      domain_is : holds U names (member e (domain f α)) ≡ some U b (λ y. pairs (x, y))
      domain_is =
          member_means U names e (domain f α) []
          ∙ (λ i. contains U (M (domain f α)) (sym e_is i).0 (sym e_is i).1)
          ∙ (λ i. contains U (at_node U names op.Domain (f ∷ []) (ty.Pow α) (power_sort a) (sort-Pow α) [] i) a x)
          ∙ (λ i. cast_own U (power_sort a) (of_list U op.Domain (power_sort a) (M f ∷ [])) i x)
          ∙ (λ i. let c = to_sort (relation_sort U names f α β relation [] i) in
          some U c (λ y. relates U (M f) a c x y))

      in_set : IsWellIn h [] → True U names h → True U names (member e (domain f α))
          → True U names (member (applied f e β) t)
      in_set well held among =
          member_means U names (applied f e β) t [] ∙ (λ i. contains U (M t) (value_is i).0 (value_is i).1)
          ∙ in_range (asks well held).0 x value (sym domain_is ∙ among)

      -- a pair of the relation
      module _ (w : Formula) (m : Ty) (result : type_of w ≡ β) (m_is : m ≡ ty.Pair (type_of e) (type_of w)) where
        abbrev y : Value carrier b
        y = cast U b (M w)

        w_is : (b, y) ≡ M w
        w_is = cast_known U (M w) b (sort_of U names w [] ∙ ap sort result)

        pair_is : holds U names (member (Node op.Maplet (e ∷ w ∷ []) m) f) ≡ pairs (x, y)
        pair_is =
            member_means U names (Node op.Maplet (e ∷ w ∷ []) m) f []
            ∙ (λ i. let z = maplet_means U names e w m m_is [] i in contains U (M f) z.0 z.1)
            ∙ (λ i. relates U (M f) (sym e_is i).0 (sym w_is i).0 (sym e_is i).1 (sym w_is i).1)

        at_pair : IsWellIn h [] → True U names h → True U names (member (Node op.Maplet (e ∷ w ∷ []) m) f)
            → M (applied f e β) ≡ M w
        at_pair well held pair =
            let there : pairs (x, y) ≡ true = sym pair_is ∙ pair in
            let same = one_value (asks well held).1 x value y (U.chooses b (λ y. pairs (x, y)) y there) there in
            value_is ∙ (λ i. (b, same i)) ∙ w_is

  module _ (env : Identifiers) (names : Valuation carrier) where
    pub row-fun_in : (h e : Formula) → IfSome (fun_in h e) (Row U names env kind.FunIn)
    row-fun_in h e = each _ (function_in h) _
        (λ x found. at_relation _ x.0 _ (λ α β relation. if_so _ (same_type (type_of e) α) _ (λ same.
        keeping U names (none_after (wd_of e) _ refl) (λ sound named g goal hyps left.
        let function = told (λ x. IsFunctionIn h x.0 x.1) (function_in h) x (function_form h) found in
        let rest = after (IsLeft U names g) (wd_of e) _ left in
        rest.1.0 (
          in_set names h x.0 x.1 function α β relation e
              (same_type_exact (type_of e) α same) sound.formulas.0.well hyps.0 (rest.0 tt),
          tt,
        )))))

    -- the types of a well pair of a relation
    pair_types : (f e w : Formula) (m α β : Ty) → type_of f ≡ ty.Pow (ty.Pair α β)
        → IsWellIn (member (Node op.Maplet (e ∷ w ∷ []) m) f) []
        → (type_of e ≡ α) × (type_of w ≡ β) × (m ≡ ty.Pair (type_of e) (type_of w))
    pair_types f e w m α β relation well =
        let pair = Node op.Maplet (e ∷ w ∷ []) m in
        let m_is = maplet_type e w m [] (well_parts op.Member (pair ∷ f ∷ []) ty.Truth [] well).0 in
        let parts = pair_parts α β (type_of e) (type_of w)
        (sym relation ∙ (member_types pair f ty.Truth [] well).0
        ∙ ap ty.Pow (type-Node op.Maplet (e ∷ w ∷ []) m ∙ m_is)) in
        (sym parts.0, sym parts.1, m_is)

    pub row-fun_eq : (h j : Formula) → IfSome (fun_eq h j) (Row U names env kind.FunEq)
    row-fun_eq h j = each _ (function_in j) _ (λ x found. at_relation _ x.0 _ (λ α β relation.
        at_two _ op.Member h _ (λ p f t is. at_two _ op.Maplet p _
        (λ e w m p_is. keeping U names refl (λ sound named g goal hyps left.
        let function = told (λ x. IsFunctionIn j x.0 x.1) (function_in j) x (function_form j) found in
        let pair_in : Formula → Formula = λ p. member p x.0 in
        let types = pair_types x.0 e w m α β relation
        (subst (λ p. IsWellIn (pair_in p) []) p_is sound.formulas.0.well) in
        let held = subst (λ p. True U names (pair_in p)) p_is hyps.0 in
        let j_well = sound.formulas.1.0.well in
        let same = at_pair names j x.0 x.1 function α β relation e types.0 w m types.1 types.2 j_well hyps.1.0 held in
        left.0 (equation_holds U names ty.Truth refl [] (applied x.0 e β) w same, tt))))))
