-- Predicates that operators and quantifiers make of what is typed in an environment.
use Rattle.std.proofs.Common.{◌≡◌, ◌≢◌, ◌∙◌, sym, ap, subst, refl, ℕ, Bool, true, false, cond, List, [], ◌∷◌, map, fold, Some, IsTrue, if◌then◌else◌}
use Rattle.std.specs.Prelude.{bytes_eq}
use Rattle.std.specs.List.{AllByRecursion, list_all}
use Rattle.formula_core.specs.declared.op.Op.{Op}
use Rattle.formula_core.specs.declared.op.Op.TheVariants as op
use Rattle.formula_core.specs.declared.op.Binder.TheVariants as binder
use Rattle.formula_core.specs.declared.row.Row.TheVariants.{Binary}
use Rattle.formula_core.specs.declared.row.BinaryRow.TheVariants.{Connective, Comparison, Inclusion}
use Rattle.formula_core.specs.declared.ty.Ty.{Ty}
use Rattle.formula_core.specs.declared.ty.Ty.TheVariants as ty
use Rattle.formula_core.specs.declared.formula.Formula.{Formula}
use Rattle.formula_core.specs.declared.formula.Formula.TheVariants.{Node}
use Rattle.formula_core.specs.Env.{type_in}
use Rattle.formula_core.specs.Formulas.{joined, substituted}
use Rattle.formula_core.specs.Identifiers.{carriers, identifiers}
use Rattle.formula_core.specs.Laws.{MayBind}
use Rattle.formula_core.specs.Rows.{row_of}
use Rattle.formula_core.specs.Shifting.{abstracted}
use Rattle.formula_core.specs.Typed.{Stands, IsTypedIn, IsPredicateIn, IsGoodEnv}
use Rattle.formula_core.specs.Types.{is_value_type, is_truth, is_integer, same_type, if_set, is_set_of}
use Rattle.formula_core.specs.TypeTable.{row_fits}
use Rattle.formula_core.specs.Wellness.{type_of, is_well_in}
use Rattle.formula_core.proofs.Equations.{identifiers-Free, identifiers-Node, carriers-Pow}
use Rattle.formula_core.proofs.Keeping.{both, all_more, carriers-Truth, carriers-Int}
use Rattle.formula_core.proofs.TypedIn.{values_replace, replaced_typed, replaced_type, exists_typed, forall_typed}
use Rattle.formula_core.proofs.Weakening.{both_true}
use Rattle.formula_core.proofs.Wellness.{well-Free, well-Node}
use Rattle.formula_core.proofs.WholeSets.{same_type_refl}
use Rattle.well_defined.specs.Conditions.{wd_of}
use Rattle.well_defined.specs.Connectives.{is_top, conjoined}
use Rattle.well_defined.specs.Predicates.{predicate, quantified, top, conjunction, disjunction, member, finite, not_empty}
use Rattle.well_defined.proofs.Connectives.{conjoined_keeps}
use Rattle.well_defined.proofs.Identifiers.{condition_keeps}
use Rattle.well_defined.proofs.Types.{type-Free, truth, integer, type-Node, at_set, set_of, value-Int, value-Pow}
use Rattle.well_defined.proofs.Wellness.{wd_is_well, wd_is_predicate}
use Rattle.po_rules.specs.Parts.{as_term}
use Rattle.po_rules.specs.Rows.{chain, for_some_of, for_every_of, equal_terms, naturals}
use Rattle.po_rules.specs.Sequents.{IsNewValueIn}

abbrev Env : Type 0
Env = List (List ℕ × Ty)

-- the type of a name of an environment has what all types there have
pub entry_has : (Q : Ty → Type 0) (env : Env) (name : List ℕ) (t : Ty) → AllByRecursion (λ x. Q x.1) env → type_in env name ≡ Some t → Q t
entry_has Q [] name t h e = cc
entry_has Q (x ∷ env) name t h e =
    let go : (b : Bool) → cond b (Some x.1) (type_in env name) ≡ Some t → Q t = elim [
      | true ↦ λ k. let same : x.1 ≡ t = cc in subst Q same h.0
      | false ↦ λ k. entry_has Q env name t h.1 k
    ] in
    go (bytes_eq name x.0) e

module _ (env : Env) where
  abbrev Is : Formula → Type 0
  Is = IsPredicateIn env

  abbrev Stand : Env → Type 0
  Stand = AllByRecursion (Stands env)

  parts_well : (parts : List Formula) → AllByRecursion (IsTypedIn env) parts → list_all (λ f. is_well_in f []) parts ≡ true
  parts_well [] h = refl
  parts_well (f ∷ parts) h = both_true _ _ h.0.well (parts_well parts h.1)

  parts_stand : (parts : List Formula) → AllByRecursion (IsTypedIn env) parts → Stand (joined (map identifiers parts))
  parts_stand [] h = tt
  parts_stand (f ∷ parts) h = both (Stands env) (identifiers f) _ h.0.names (parts_stand parts h.1)

  -- an operator on typed operands
  pub node_typed : (o : Op) (parts : List Formula) (t : Ty) → AllByRecursion (IsTypedIn env) parts → Stand (carriers t) → row_fits (row_of o) (map type_of parts) t ≡ true → IsTypedIn env (Node o parts t)
  node_typed o parts t h c f = record {
    well = well-Node o parts t [] ∙ both_true _ _ (parts_well parts h) f;
    names = subst Stand (sym (identifiers-Node o parts t)) (both (Stands env) (joined (map identifiers parts)) (carriers t) (parts_stand parts h) c);
  }

  pub predicate_typed : (o : Op) (parts : List Formula) → AllByRecursion (IsTypedIn env) parts → row_fits (row_of o) (map type_of parts) ty.Truth ≡ true → Is (predicate o parts)
  predicate_typed o parts h f = (node_typed o parts ty.Truth h (subst Stand (sym carriers-Truth) tt) f, type-Node o parts ty.Truth)

  pub top_typed : Is top
  top_typed = predicate_typed op.Top [] tt truth

  is_truth_of : (p : Formula) → Is p → is_truth (type_of p) ≡ true
  is_truth_of p h = ap is_truth h.1 ∙ truth

  pub connected : (o : Op) → row_of o ≡ Binary Connective → (p q : Formula) → Is p → Is q → Is (predicate o (p ∷ q ∷ []))
  connected o e p q g h =
      predicate_typed o (p ∷ q ∷ []) (g.0, (h.0, tt)) (ap (λ r. row_fits r (type_of p ∷ type_of q ∷ []) ty.Truth) e ∙ both_true _ _ (both_true _ _ (is_truth_of p g) (is_truth_of q h)) truth)

  pub chain_typed : (joins : Formula → Formula → Formula) → ((p q : Formula) → Is p → Is q → Is (joins p q)) → (fs : List Formula) → AllByRecursion Is fs → Is (chain joins fs)
  chain_typed joins one [] h = top_typed
  chain_typed joins one (p ∷ ps) h = go ps p h.1 h.0
    where
      go : (qs : List Formula) (first : Formula) → AllByRecursion Is qs → Is first → Is (fold joins first qs)
      go [] first each h = h
      go (q ∷ qs) first each h = go qs (joins first q) each.1 (one first q h each.0)

  pub conjunctions_typed : (fs : List Formula) → AllByRecursion Is fs → Is (chain conjunction fs)
  conjunctions_typed = chain_typed conjunction (connected op.And refl)

  pub disjunctions_typed : (fs : List Formula) → AllByRecursion Is fs → Is (chain disjunction fs)
  disjunctions_typed = chain_typed disjunction (connected op.Or refl)

  pub conjoined_typed : (p q : Formula) → Is p → Is q → Is (conjoined p q)
  conjoined_typed = conjoined_keeps Is top_typed connected

  pub all_conjoined : (fs : List Formula) (first : Formula) → AllByRecursion Is fs → Is first → Is (fold conjoined first fs)
  all_conjoined [] first each h = h
  all_conjoined (f ∷ fs) first each h = all_conjoined fs (conjoined first f) each.1 (conjoined_typed first f h each.0)

  -- the condition of a typed formula
  pub condition_typed : (f : Formula) → IsTypedIn env f → Is (wd_of f)
  condition_typed f h = (record { well = wd_is_well f h.well; names = condition_keeps (Stands env) f h.names }, wd_is_predicate f h.well)

  -- what relates two values of one type
  pub equal_typed : (a b : Formula) → IsTypedIn env a → IsTypedIn env b → IsTrue (is_value_type (type_of b)) → type_of a ≡ type_of b → Is (equal_terms a b)
  equal_typed a b g h v e =
      predicate_typed op.Equal (a ∷ b ∷ []) (g, (h, tt))
      (both_true _ _ (both_true _ _ (ap is_value_type e ∙ v) (ap (same_type (type_of b)) e ∙ same_type_refl (type_of b))) truth)

  module _ (good : IsGoodEnv env) where
    pub value_at : (name : List ℕ) (t : Ty) → type_in env name ≡ Some t → IsTrue (is_value_type t)
    value_at name t = entry_has (λ u. IsTrue (is_value_type u)) env name t good.types

    pub carriers_at : (name : List ℕ) (t : Ty) → type_in env name ≡ Some t → Stand (carriers t)
    carriers_at name t = entry_has (λ u. Stand (carriers u)) env name t good.carriers

    pub term_typed : (x : List ℕ × Ty) → Stands env x → IsTypedIn env (as_term x)
    term_typed x h = record {
      well = well-Free x.0 x.1 [] ∙ value_at x.0 x.1 h;
      names = subst Stand (sym (identifiers-Free x.0 x.1)) (h, carriers_at x.0 x.1 h);
    }

    may_bind : (ids : Env) → ids ≢ [] → Stand ids → MayBind env env ids
    may_bind ids some h = record {
      some = some;
      types = all_more (Stands env) (λ x. IsTrue (is_value_type x.1)) (λ x k. value_at x.0 x.1 k) ids h;
      carriers = all_more (Stands env) (λ x. Stand (carriers x.1)) (λ x k. carriers_at x.0 x.1 k) ids h;
      sets = λ set k. k;
      others = λ x k e. k;
    }

    -- ∃ids·f and ∀ids·f of names of the environment
    pub some_typed : (ids : Env) → ids ≢ [] → Stand ids → (f : Formula) → Is f → Is (for_some_of ids f)
    some_typed ids some h f is = exists_typed ids f env env (may_bind ids some h) is

    pub every_typed : (ids : Env) → ids ≢ [] → Stand ids → (f : Formula) → Is f → Is (for_every_of ids f)
    every_typed ids some h f is =
        let part = abstracted ids 0 f in
        let go : (b : Bool) → Is (if b then top else quantified binder.ForAll (map (λ x. x.1) ids) part) = elim [
          | true ↦ top_typed
          | false ↦ forall_typed ids f env env (may_bind ids some h) is
        ] in
        go (is_top part)

  -- a name with a type of values, whose carrier sets stand there
  pub name_typed : (x : List ℕ × Ty) → Stands env x → IsTrue (is_value_type x.1) → Stand (carriers x.1) → IsTypedIn env (as_term x)
  name_typed x h v c = record { well = well-Free x.0 x.1 [] ∙ v; names = subst Stand (sym (identifiers-Free x.0 x.1)) (h, c) }

  pub member_typed : (x : List ℕ × Ty) (s : Formula) → IsTypedIn env (as_term x) → IsTrue (is_value_type x.1) → IsTypedIn env s → type_of s ≡ ty.Pow x.1 → Is (member (as_term x) s)
  member_typed x s h v k e =
      let name = type-Free x.0 x.1 in
      let set : is_set_of (type_of s) (type_of (as_term x)) ≡ true = ap (λ t. is_set_of t (type_of (as_term x))) e ∙ ap (is_set_of (ty.Pow x.1)) name ∙ set_of x.1 in
      predicate_typed op.Member (as_term x ∷ s ∷ []) (h, (k, tt)) (both_true _ _ (both_true _ _ (ap is_value_type name ∙ v) set) truth)

  -- a set of values
  module _ (s : Formula) (t : Ty) (e : type_of s ≡ ty.Pow t) (v : IsTrue (is_value_type t)) (c : Stand (carriers t)) (h : IsTypedIn env s) where
    of_values : if_set (type_of s) is_value_type ≡ true
    of_values = ap (λ u. if_set u is_value_type) e ∙ at_set t is_value_type ∙ v

    set_stands : Stand (carriers (type_of s))
    set_stands = subst (λ u. Stand (carriers u)) (sym e) (subst Stand (sym (carriers-Pow t)) c)

    abbrev none : Formula
    none = Node op.EmptySet [] (type_of s)

    pub not_empty_typed : Is (not_empty s)
    not_empty_typed =
        let is = type-Node op.EmptySet [] (type_of s) in
        let same : Is (predicate op.Equal (s ∷ none ∷ [])) =
        equal_typed s none h (node_typed op.EmptySet [] (type_of s) tt set_stands of_values) (ap is_value_type (is ∙ e) ∙ value-Pow t ∙ v) (sym is) in
        predicate_typed op.Not (predicate op.Equal (s ∷ none ∷ []) ∷ []) (same.0, tt) (both_true _ _ (is_truth_of _ same) truth)

  pub finite_typed : (s : Formula) → if_set (type_of s) is_value_type ≡ true → IsTypedIn env s → Is (finite s)
  finite_typed s v h = predicate_typed op.Finite (s ∷ []) (h, tt) (both_true _ _ v truth)

  pub inclusion_typed : (o : Op) → row_of o ≡ Binary Inclusion → (a b : Formula) → IsTypedIn env a → IsTypedIn env b → if_set (type_of a) is_value_type ≡ true → type_of b ≡ type_of a → Is (predicate o (a ∷ b ∷ []))
  inclusion_typed o r a b g h v e =
      predicate_typed o (a ∷ b ∷ []) (g, (h, tt))
      (ap (λ x. row_fits x (type_of a ∷ type_of b ∷ []) ty.Truth) r ∙ both_true _ _ (both_true _ _ v (ap (λ u. same_type u (type_of a)) e ∙ same_type_refl (type_of a))) truth)

  pub comparison_typed : (o : Op) → row_of o ≡ Binary Comparison → (a b : Formula) → IsTypedIn env a → IsTypedIn env b → is_integer (type_of a) ≡ true → is_integer (type_of b) ≡ true → Is (predicate o (a ∷ b ∷ []))
  comparison_typed o r a b g h v w =
      predicate_typed o (a ∷ b ∷ []) (g, (h, tt)) (ap (λ x. row_fits x (type_of a ∷ type_of b ∷ []) ty.Truth) r ∙ both_true _ _ (both_true _ _ v w) truth)

  naturals_typed : IsTypedIn env naturals
  naturals_typed =
      node_typed op.Naturals [] (ty.Pow ty.Int) tt (subst Stand (sym (carriers-Pow ty.Int)) (subst Stand (sym carriers-Int) tt)) (at_set ty.Int is_integer ∙ integer)

  pub natural_typed : (v : Formula) → IsTypedIn env v → type_of v ≡ ty.Int → Is (member v naturals)
  natural_typed v h e =
      let set : is_set_of (type_of naturals) (type_of v) ≡ true = ap (λ t. is_set_of t (type_of v)) (type-Node op.Naturals [] (ty.Pow ty.Int)) ∙ ap (is_set_of (ty.Pow ty.Int)) e ∙ set_of ty.Int in
      predicate_typed op.Member (v ∷ naturals ∷ []) (h, (naturals_typed, tt)) (both_true _ _ (both_true _ _ (ap is_value_type e ∙ value-Int) set) truth)

  module _ (after : List (List ℕ × Formula)) (values : AllByRecursion (IsNewValueIn env) after) where
    pub after_typed : (f : Formula) → IsTypedIn env f → IsTypedIn env (substituted after f)
    after_typed f h = replaced_typed env env after (values_replace env after values) f h

    pub after_type : (f : Formula) → IsTypedIn env f → type_of (substituted after f) ≡ type_of f
    after_type f h = replaced_type env env after (values_replace env after values) f h

    pub after_predicate : (f : Formula) → Is f → Is (substituted after f)
    after_predicate f h = (after_typed f h.0, after_type f h.0 ∙ h.1)
