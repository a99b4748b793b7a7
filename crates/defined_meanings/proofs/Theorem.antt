-- Where its condition is true, a formula denotes the same in both universes; and what follows for sequents.
use Rattle.std.proofs.Common.{Bool, List, Some, [], ap, false, fold, map, refl, reverse, slice_get, subst, suc, sym, true, zero, ℕ, ◌&&◌, ◌++◌, ◌∙◌, ◌∷◌, ◌||◌, ◌≡◌}
use Rattle.std.specs.List.{AllByRecursion}
use Rattle.std.specs.Option.{option_map_or}
use Rattle.std.specs.Prelude.{IsTrue, ◌↔◌}
use Rattle.formula_core.proofs.BindingLaw.{reverse-map}
use Rattle.formula_core.proofs.Induction.{formula_induction}
use Rattle.formula_core.proofs.SubstitutionLaws.{map-append}
use Rattle.formula_core.proofs.Types.{same_type_exact}
use Rattle.formula_core.proofs.Weakening.{first_true, second_true}
use Rattle.formula_core.proofs.Wellness.{well-Bind, well-Bound}
use Rattle.formula_core.specs.Rows.{row_of}
use Rattle.formula_core.specs.TypeTable.{binder_fits}
use Rattle.formula_core.specs.Types.{is_truth, same_type}
use Rattle.formula_core.specs.Wellness.{is_well, may_be_bound, type_of}
use Rattle.formula_core.specs.declared.Binder.{Binder}
use Rattle.formula_core.specs.declared.Binder.TheVariants as binder
use Rattle.formula_core.specs.declared.Formula.{Formula}
use Rattle.formula_core.specs.declared.Formula.TheVariants.{Bind, Node}
use Rattle.formula_core.specs.declared.Op.{Op}
use Rattle.formula_core.specs.declared.Op.TheVariants as op
use Rattle.formula_core.specs.Typed.{IsPredicateIn}
use Rattle.formula_core.specs.declared.Ty.{Ty}
use Rattle.formula_core.specs.declared.Ty.TheVariants as ty
use Rattle.well_defined.proofs.Equations.{wd-Bind, wd-Node}
use Rattle.well_defined.specs.Conditions.{binder_condition, operands_condition, own_condition, quantified_condition, second_guarded, wd_of}
use Rattle.well_defined.specs.Connectives.{alternative, conjoined, for_every, implied}
use Rattle.well_defined.specs.Predicates.{top}
use Rattle.meanings.specs.Denotations.{AreTrue, Assignment, denotation, holds, of_binder}
use Rattle.meanings.specs.Operations.{of_list, truth_value}
use Rattle.meanings.specs.Universes.{Universe, Valuation}
use Rattle.meanings.specs.Values.{Denotation, Sort, boolean_sort, sort}
use Rattle.meanings.proofs.Denotations.{denotation-Bind, denotation-Free, denotation-Int, denotation-Node, sort-Truth, sort_of}
use Rattle.meanings.proofs.Fitting.{IsWellIn, row_of_well, well_below, well_parts}
use Rattle.meanings.proofs.Quantifiers.{sorts_are}
use Rattle.meanings.proofs.Truths.{true_in}
use Rattle.defined_meanings.specs.Laws.{AreDefinedInTurn, FitsTypes, IsDefined}
use Rattle.defined_meanings.proofs.Binders.{and_guarded, implies_guarded, one_part, two_parts}
use Rattle.defined_meanings.proofs.Conditions.{index_is, value_exists}
use Rattle.defined_meanings.proofs.Operators.{HasValue, values_same}
use Rattle.defined_meanings.proofs.Sorts.{SortsFit, of_truth, sorts_fit}
use Rattle.defined_meanings.proofs.Truths.{IsPlain, all_tell, alternative_tells, condition_is_plain, conditions_are_plain, conjoined_tells, for_every_tells, implied_tells, operands_are_plain, plain_alternative, plain_conjoined, plain_for_every, plain_implied, plain_own, plain_quantified, plain_top, well_is_plain}
use Rattle.defined_meanings.proofs.Universes.{truth_both}

or_guarded : (a b c d : Bool) → a ≡ b → (a ≡ false → c ≡ d) → (a || c) ≡ (b || d)
or_guarded true b c d e f = λ i. e i || d
or_guarded false b c d e f = f refl ∙ (λ i. e i || d)

-- the value that an index stands for
found : {carrier : List ℕ → Type 0} → (σ : List (Denotation carrier)) (types : List Ty) (k : ℕ) (t : Ty) → FitsTypes σ types
    → option_map_or (λ u. same_type u t) (slice_get types k) false ≡ true → (x : Denotation carrier) × (slice_get σ k ≡ Some x) × (x.0 ≡ sort t)
found [] [] k t e h = absurd cc
found [] (u ∷ types) k t e h = absurd cc
found (x ∷ σ) [] k t e h = absurd cc
found (x ∷ σ) (u ∷ types) zero t e h = let first : x.0 ≡ sort u = cc in (x, refl, first ∙ ap sort (same_type_exact u t h))
found (x ∷ σ) (u ∷ types) (suc k) t e h = let rest : map (λ x. x.0) σ ≡ map sort types = cc in found σ types k t rest h

pub fits_below : {carrier : List ℕ → Type 0} → (own types : List Ty) (es σ : List (Denotation carrier)) → map (λ x. x.0) es ≡ map sort own → FitsTypes σ types
    → FitsTypes (reverse es ++ σ) (reverse own ++ types)
fits_below own types es σ e h =
    map-append (λ x. x.0) (reverse es) σ
    ∙ (λ i. (sym (reverse-map (λ x. x.0) es) ∙ ap reverse e ∙ reverse-map sort own) i ++ h i)
    ∙ sym (map-append sort (reverse own) types)

-- a binder's first part is a predicate
one_truth : (b : Binder) (u t : Ty) → binder_fits b (u ∷ []) t ≡ true → is_truth u ≡ true
one_truth binder.ForAll u t h = first_true _ _ h
one_truth binder.Exists u t h = first_true _ _ h
one_truth binder.Comprehension u t h = absurd cc
one_truth binder.QuantifiedUnion u t h = absurd cc
one_truth binder.QuantifiedIntersection u t h = absurd cc

pub two_truth : (b : Binder) (u w t : Ty) → binder_fits b (u ∷ w ∷ []) t ≡ true → is_truth u ≡ true
two_truth binder.ForAll u w t h = absurd cc
two_truth binder.Exists u w t h = absurd cc
two_truth binder.Comprehension u w t h = first_true _ _ (first_true _ _ h)
two_truth binder.QuantifiedUnion u w t h = first_true _ _ (first_true _ _ h)
two_truth binder.QuantifiedIntersection u w t h = first_true _ _ (first_true _ _ h)

module _ {carrier : List ℕ → Type 0} (U V : Universe carrier) (names : Valuation carrier) where
  abbrev M : Formula → Assignment U → Denotation carrier
  M = denotation U names

  abbrev N : Formula → Assignment U → Denotation carrier
  N = denotation V names

  abbrev T : Formula → Assignment U → Bool
  T = true_in U names

  -- where its condition is true, it denotes the same
  abbrev pub IsOne : Formula → Type 0
  IsOne f = (types : List Ty) (σ : Assignment U) → IsWellIn f types → FitsTypes σ types → T (wd_of f) σ ≡ true → M f σ ≡ N f σ

  sorts_of : (σ : Assignment U) (parts : List Formula) → map sort (map type_of parts) ≡ map (λ x. x.0) (map (λ f. M f σ) parts)
  sorts_of σ [] = refl
  sorts_of σ (p ∷ parts) = λ i. sym (sort_of U names p σ) i ∷ sorts_of σ parts i

  module _ (types : List Ty) (σ : Assignment U) (fits : FitsTypes σ types) where
    -- the operands, of which the second may be guarded by the first
    two_operands : (o : Op) (p q : Formula) (s : Sort) → IsWellIn p types → IsWellIn q types → IsOne p → IsOne q
        → T (second_guarded o p (wd_of p) (wd_of q)) σ ≡ true → SortsFit (row_of o) ((M p σ).0 ∷ (M q σ).0 ∷ []) s → HasValue U o (M p σ ∷ M q σ ∷ [])
        → of_list U o s (M p σ ∷ M q σ ∷ []) ≡ of_list V o s (N p σ ∷ N q σ ∷ [])
    two_operands o p q s wp wq one two h sorts has = go o h sorts has
      where
        l_plain : IsPlain (wd_of p)
        l_plain = condition_is_plain p types wp

        m_plain : IsPlain (wd_of q)
        m_plain = condition_is_plain q types wq

        p_same : T (wd_of p) σ ≡ true → M p σ ≡ N p σ
        p_same = one types σ wp fits

        q_same : T (wd_of q) σ ≡ true → M q σ ≡ N q σ
        q_same = two types σ wq fits

        p_truth : (M p σ).0 ≡ boolean_sort → T (wd_of p) σ ≡ true → T p σ ≡ truth_value V (N p σ)
        p_truth e k = truth_both U V (M p σ) e ∙ ap (truth_value V) (p_same k)

        q_truth : (M q σ).0 ≡ boolean_sort → T (wd_of q) σ ≡ true → T q σ ≡ truth_value V (N q σ)
        q_truth e k = truth_both U V (M q σ) e ∙ ap (truth_value V) (q_same k)

        connective : (o : Op) (s : Sort) → s ≡ boolean_sort → of_list U o boolean_sort (M p σ ∷ M q σ ∷ []) ≡ of_list V o boolean_sort (N p σ ∷ N q σ ∷ [])
            → of_list U o s (M p σ ∷ M q σ ∷ []) ≡ of_list V o s (N p σ ∷ N q σ ∷ [])
        connective o s e h = subst (λ s. of_list U o s (M p σ ∷ M q σ ∷ []) ≡ of_list V o s (N p σ ∷ N q σ ∷ [])) (sym e) h

        both : (o : Op) → T (conjoined (wd_of p) (wd_of q)) σ ≡ true → SortsFit (row_of o) ((M p σ).0 ∷ (M q σ).0 ∷ []) s → HasValue U o (M p σ ∷ M q σ ∷ [])
            → of_list U o s (M p σ ∷ M q σ ∷ []) ≡ of_list V o s (N p σ ∷ N q σ ∷ [])
        both o h sorts has =
            let k = conjoined_tells U names σ (wd_of p) (wd_of q) l_plain m_plain h in
            values_same U V o s (M p σ ∷ M q σ ∷ []) sorts has ∙ (λ i. of_list V o s (p_same k.0 i ∷ q_same k.1 i ∷ []))

        go : (o : Op) → T (second_guarded o p (wd_of p) (wd_of q)) σ ≡ true → SortsFit (row_of o) ((M p σ).0 ∷ (M q σ).0 ∷ []) s
            → HasValue U o (M p σ ∷ M q σ ∷ []) → of_list U o s (M p σ ∷ M q σ ∷ []) ≡ of_list V o s (N p σ ∷ N q σ ∷ [])
        go op.And h sorts has =
            let k = conjoined_tells U names σ (wd_of p) (implied p (wd_of q)) l_plain (plain_implied p (wd_of q) (well_is_plain p types wp) m_plain) h in
            connective op.And s sorts.2
            (and_guarded (T p σ) (truth_value V (N p σ)) (T q σ) (truth_value V (N q σ)) (p_truth sorts.0 k.0)
            (λ t. q_truth sorts.1 (implied_tells U names σ p (wd_of q) m_plain k.1 t)))
        go op.Implies h sorts has =
            let k = conjoined_tells U names σ (wd_of p) (implied p (wd_of q)) l_plain (plain_implied p (wd_of q) (well_is_plain p types wp) m_plain) h in
            connective op.Implies s sorts.2
            (implies_guarded (T p σ) (truth_value V (N p σ)) (T q σ) (truth_value V (N q σ)) (p_truth sorts.0 k.0)
            (λ t. q_truth sorts.1 (implied_tells U names σ p (wd_of q) m_plain k.1 t)))
        go op.Or h sorts has =
            let k = conjoined_tells U names σ (wd_of p) (alternative p (wd_of q)) l_plain (plain_alternative p (wd_of q) (well_is_plain p types wp) m_plain) h in
            connective op.Or s sorts.2
            (or_guarded (T p σ) (truth_value V (N p σ)) (T q σ) (truth_value V (N q σ)) (p_truth sorts.0 k.0)
            (λ t. q_truth sorts.1 (alternative_tells U names σ p (wd_of q) (well_is_plain p types wp) m_plain k.1 t)))
        go o h sorts has = both o h sorts has

    all_same : (parts : List Formula) → AllByRecursion (λ p. IsWellIn p types) parts → AllByRecursion IsOne parts → AllByRecursion (λ l. T l σ ≡ true) (map wd_of parts)
        → map (λ f. M f σ) parts ≡ map (λ f. N f σ) parts
    all_same [] w each h = refl
    all_same (p ∷ parts) w each h = λ i. each.0 types σ w.0 fits h.0 i ∷ all_same parts w.1 each.1 h.1 i

    any_operands : (o : Op) (parts : List Formula) (s : Sort) → AllByRecursion (λ p. IsWellIn p types) parts → AllByRecursion IsOne parts
        → T (fold conjoined top (map wd_of parts)) σ ≡ true → SortsFit (row_of o) (map (λ x. x.0) (map (λ f. M f σ) parts)) s → HasValue U o (map (λ f. M f σ) parts)
        → of_list U o s (map (λ f. M f σ) parts) ≡ of_list V o s (map (λ f. N f σ) parts)
    any_operands o parts s w each h sorts has =
        let k = all_tell U names σ (map wd_of parts) top plain_top (conditions_are_plain types parts w) h in
        values_same U V o s (map (λ f. M f σ) parts) sorts has ∙ (λ i. of_list V o s (all_same parts w each k.1 i))

    operands_same : (o : Op) (parts : List Formula) (s : Sort) → AllByRecursion (λ p. IsWellIn p types) parts → AllByRecursion IsOne parts
        → T (operands_condition o parts (map wd_of parts)) σ ≡ true → SortsFit (row_of o) (map (λ x. x.0) (map (λ f. M f σ) parts)) s → HasValue U o (map (λ f. M f σ) parts)
        → of_list U o s (map (λ f. M f σ) parts) ≡ of_list V o s (map (λ f. N f σ) parts)
    operands_same o [] s w each h sorts has = any_operands o [] s w each h sorts has
    operands_same o (p ∷ []) s w each h sorts has = any_operands o (p ∷ []) s w each h sorts has
    operands_same o (p ∷ q ∷ []) s w each h sorts has = two_operands o p q s w.0 w.1.0 each.0 each.1.0 h sorts has
    operands_same o (p ∷ q ∷ r ∷ parts) s w each h sorts has = any_operands o (p ∷ q ∷ r ∷ parts) s w each h sorts has

  node_is_one : (o : Op) (parts : List Formula) (t : Ty) → AllByRecursion IsOne parts → IsOne (Node o parts t)
  node_is_one o parts t each types σ w fits h =
      let well = well_parts o parts t types w in let row = row_of_well o parts t types w in
      let k =
      conjoined_tells U names σ (operands_condition o parts (map wd_of parts)) (own_condition o parts) (operands_are_plain o parts types well) (plain_own o parts)
      (sym (ap (λ f. T f σ) (wd-Node o parts t)) ∙ h) in
      let P : List Sort → Type 0 = λ sorts. SortsFit (row_of o) sorts (sort t) in
      let sorts : P (map (λ x. x.0) (map (λ f. M f σ) parts)) = subst P (sorts_of σ parts) (sorts_fit (row_of o) (map type_of parts) t row) in
      denotation-Node U names o parts t σ
      ∙ (λ i. (sort t, operands_same types σ fits o parts (sort t) well each k.0 sorts (value_exists U names σ o parts t row k.1) i))
      ∙ sym (denotation-Node V names o parts t σ)

  module _ (b : Binder) (own : List Ty) (t : Ty) (types : List Ty) (σ : Assignment U) (fits : FitsTypes σ types) where
    abbrev inner : List Ty
    inner = reverse own ++ types

    abbrev BelowSame : List Formula → Type 0
    BelowSame parts = of_binder U b (map sort own) (sort t) (map M parts) σ ≡ of_binder V b (map sort own) (sort t) (map N parts) σ

    p_sort : (p : Formula) → is_truth (type_of p) ≡ true → (τ : Assignment U) → (M p τ).0 ≡ boolean_sort
    p_sort p h τ = sort_of U names p τ ∙ of_truth (type_of p) h

    same_at : (f : Formula) → IsWellIn f inner → IsOne f → (es : Assignment U) → sorts_are U es ≡ map sort own → T (wd_of f) (reverse es ++ σ) ≡ true
        → M f (reverse es ++ σ) ≡ N f (reverse es ++ σ)
    same_at f w one es e h = one inner (reverse es ++ σ) w (fits_below own types es σ e fits) h

    one_below : (p : Formula) → IsWellIn p inner → IsOne p → binder_fits b (type_of p ∷ []) t ≡ true → T (for_every own (wd_of p)) σ ≡ true → BelowSame (p ∷ [])
    one_below p w one row h =
        one_part U V (map sort own) σ (M p) (N p) (p_sort p (one_truth b (type_of p) t row))
        (λ es e. same_at p w one es e (for_every_tells U names σ own (wd_of p) (condition_is_plain p inner w) h es e)) b (type_of p) t row

    two_below : (p f : Formula) → IsWellIn p inner → IsWellIn f inner → IsOne p → IsOne f → binder_fits b (type_of p ∷ type_of f ∷ []) t ≡ true
        → T (conjoined (for_every own (conjoined (wd_of p) (implied p (wd_of f)))) (quantified_condition b own p)) σ ≡ true → BelowSame (p ∷ f ∷ [])
    two_below p f wp wf one two row h =
        two_parts U V (map sort own) σ (M p) (N p) (p_sort p (two_truth b (type_of p) (type_of f) t row)) (λ es e. same_at p wp one es e (both es e).0)
        (M f) (N f) (type_of f) (λ τ. sort_of U names f τ)
        (λ es e k. same_at f wf two es e (implied_tells U names (reverse es ++ σ) p (wd_of f) m_plain (both es e).1 k)) b (type_of p) t row
      where
        m_plain : IsPlain (wd_of f)
        m_plain = condition_is_plain f inner wf

        l_plain : IsPlain (wd_of p)
        l_plain = condition_is_plain p inner wp

        guarded_plain : IsPlain (implied p (wd_of f))
        guarded_plain = plain_implied p (wd_of f) (well_is_plain p inner wp) m_plain

        inside_plain : IsPlain (conjoined (wd_of p) (implied p (wd_of f)))
        inside_plain = plain_conjoined (wd_of p) (implied p (wd_of f)) l_plain guarded_plain

        whole : T (for_every own (conjoined (wd_of p) (implied p (wd_of f)))) σ ≡ true
        whole =
            (conjoined_tells U names σ (for_every own (conjoined (wd_of p) (implied p (wd_of f)))) (quantified_condition b own p)
            (plain_for_every own (conjoined (wd_of p) (implied p (wd_of f)))) (plain_quantified b own p) h).0

        both : (es : Assignment U) → sorts_are U es ≡ map sort own → (T (wd_of p) (reverse es ++ σ) ≡ true) × (T (implied p (wd_of f)) (reverse es ++ σ) ≡ true)
        both es e =
            conjoined_tells U names (reverse es ++ σ) (wd_of p) (implied p (wd_of f)) l_plain guarded_plain
            (for_every_tells U names σ own (conjoined (wd_of p) (implied p (wd_of f))) inside_plain whole es e)

    below_same : (parts : List Formula) → AllByRecursion (λ p. IsWellIn p inner) parts → AllByRecursion IsOne parts → binder_fits b (map type_of parts) t ≡ true
        → T (binder_condition b own parts (map wd_of parts)) σ ≡ true → BelowSame parts
    below_same [] w each row h = absurd (none b row)
      where
        none : (b : Binder) → binder_fits b [] t ≡ true → ⊥
        none binder.ForAll k = absurd cc
        none _ k = absurd cc
    below_same (p ∷ []) w each row h = one_below p w.0 each.0 row h
    below_same (p ∷ f ∷ []) w each row h = two_below p f w.0 w.1.0 each.0 each.1.0 row h
    below_same (p ∷ f ∷ q ∷ parts) w each row h = absurd (none b (type_of p) (type_of f) (type_of q) (map type_of parts) row)
      where
        none : (b : Binder) (u v w : Ty) (more : List Ty) → binder_fits b (u ∷ v ∷ w ∷ more) t ≡ true → ⊥
        none binder.ForAll u v w more k = absurd cc
        none _ u v w more k = absurd cc

  bind_is_one : (b : Binder) (own : List Ty) (parts : List Formula) (t : Ty) → AllByRecursion IsOne parts → IsOne (Bind b own parts t)
  bind_is_one b own parts t each types σ w fits h =
      let row = second_true (may_be_bound own) _ (first_true (may_be_bound own && binder_fits b (map type_of parts) t) _ (sym (well-Bind b own parts t types) ∙ w)) in
      let k : T (binder_condition b own parts (map wd_of parts)) σ ≡ true = sym (ap (λ f. T f σ) (wd-Bind b own parts t)) ∙ h in
      denotation-Bind U names b own parts t σ
      ∙ (λ i. (sort t, below_same b own t types σ fits parts (well_below b own parts t types w) each row k i))
      ∙ sym (denotation-Bind V names b own parts t σ)

  pub each_is_one : (f : Formula) → IsOne f
  each_is_one = formula_induction IsOne
      (λ n types σ w fits h. denotation-Int U names n σ ∙ sym (denotation-Int V names n σ))
      (λ name t types σ w fits h. denotation-Free U names name t σ ∙ sym (denotation-Free V names name t σ))
      (λ k t types σ w fits h.
      let x = found σ types k t fits (sym (well-Bound k t types) ∙ w) in
      index_is U names k t σ x.0 x.1 x.2 ∙ sym (index_is V names k t σ x.0 x.1 x.2))
      node_is_one bind_is_one

  -- a closed predicate that is defined is true in both or in neither
  truth_same : (f : Formula) → IsTrue (is_well f) → type_of f ≡ ty.Truth → IsDefined U names f [] → holds U names f ≡ holds V names f
  truth_same f well type defined =
      truth_both U V (M f []) (sort_of U names f [] ∙ ap sort type ∙ sort-Truth) ∙ ap (truth_value V) (each_is_one f [] [] well refl defined)

  pub sequents_agree : (env : List (List ℕ × Ty)) (hyps : List Formula) (goal : Formula) → AllByRecursion (IsPredicateIn env) hyps → IsPredicateIn env goal
      → AreDefinedInTurn U names (hyps ++ goal ∷ []) → (AreTrue U names hyps → IsTrue (holds U names goal)) ↔ (AreTrue V names hyps → IsTrue (holds V names goal))
  sequents_agree env [] goal each is defined =
      let same = truth_same goal is.0.well is.1 (defined [] goal [] refl tt) in (λ h k. sym same ∙ h tt, λ h k. same ∙ h tt)
  sequents_agree env (f ∷ hyps) goal each is defined =
      let same = truth_same f each.0.0.well each.0.1 (defined [] f (hyps ++ goal ∷ []) refl tt) in
      let later = λ (t : holds U names f ≡ true). sequents_agree env hyps goal each.1 is
      (λ before g behind cut trues. defined (f ∷ before) g behind (ap (λ l. f ∷ l) cut) (t, trues)) in (
        λ h k. (later (same ∙ k.0)).0 (λ trues. h (same ∙ k.0, trues)) k.1,
        λ h k. (later k.0).1 (λ trues. h (sym same ∙ k.0, trues)) k.1,
      )
