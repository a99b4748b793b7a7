-- A condition that is true in one universe is true in the other.
use Rattle.std.proofs.Common.{Bool, List, [], ap, false, fold, map, refl, reverse, sym, true, ℕ, ◌&&◌, ◌++◌, ◌∙◌, ◌∷◌, ◌≡◌}
use Rattle.std.specs.List.{AllByRecursion}
use Rattle.std.specs.Prelude.{if◌then◌else◌}
use Rattle.formula_core.proofs.Induction.{formula_induction}
use Rattle.formula_core.proofs.Weakening.{both_true, first_true, second_true}
use Rattle.formula_core.proofs.Wellness.{well-Bind}
use Rattle.formula_core.specs.Rows.{row_of}
use Rattle.formula_core.specs.TypeTable.{binder_fits, row_fits}
use Rattle.formula_core.specs.Types.{is_truth}
use Rattle.formula_core.specs.Wellness.{may_be_bound, type_of}
use Rattle.formula_core.specs.declared.Binder.{Binder}
use Rattle.formula_core.specs.declared.Binder.TheVariants as binder
use Rattle.formula_core.specs.declared.Formula.{Formula}
use Rattle.formula_core.specs.declared.Formula.TheVariants.{Bind, Node}
use Rattle.formula_core.specs.declared.Op.{Op}
use Rattle.formula_core.specs.declared.Op.TheVariants as op
use Rattle.formula_core.specs.declared.Ty.{Ty}
use Rattle.formula_core.specs.declared.Ty.TheVariants as ty
use Rattle.well_defined.proofs.Equations.{wd-Bind, wd-Bound, wd-Free, wd-Int, wd-Node}
use Rattle.well_defined.proofs.Types.{truth}
use Rattle.well_defined.specs.Conditions.{binder_condition, operands_condition, own_condition, quantified_condition, second_guarded, wd_of}
use Rattle.well_defined.specs.Connectives.{alternative, conjoined, for_every, implied, is_top}
use Rattle.well_defined.specs.Predicates.{conjunction, disjunction, implication, quantified, top}
use Rattle.meanings.specs.Denotations.{Assignment, denotation}
use Rattle.meanings.specs.Operations.{truth_value}
use Rattle.meanings.specs.Universes.{Universe, Valuation}
use Rattle.meanings.specs.Values.{boolean_sort, sort}
use Rattle.meanings.proofs.Bools.{implies_from, or_left, or_right}
use Rattle.meanings.proofs.Denotations.{sort_of}
use Rattle.meanings.proofs.Fitting.{IsWellIn, row_of_well, well_below, well_parts}
use Rattle.meanings.proofs.Quantifiers.{every_of_holds, sorts_are}
use Rattle.meanings.proofs.Truths.{true-And, true-ForAll, true-Implies, true-Or, true-Top, true_in}
use Rattle.defined_meanings.specs.Laws.{FitsTypes}
use Rattle.defined_meanings.proofs.Claims.{own_told, quantified_alike, quantified_sort}
use Rattle.defined_meanings.proofs.Sorts.{of_truth}
use Rattle.defined_meanings.proofs.Theorem.{each_is_one, fits_below, two_truth}
use Rattle.defined_meanings.proofs.Truths.{IsPlain, all_tell, alternative_tells, condition_is_plain, conditions_are_plain, conjoined_tells, for_every_tells, implied_tells, operands_are_plain, plain_alternative, plain_conjoined, plain_for_every, plain_implied, plain_own, plain_quantified, plain_top, well_is_plain}
use Rattle.defined_meanings.proofs.Universes.{truth_both}

-- what makes a condition true
module _ {carrier : List ℕ → Type 0} (U : Universe carrier) (names : Valuation carrier) (σ : Assignment U) where
  abbrev T : Formula → Bool
  T f = true_in U names f σ

  top_holds : T top ≡ true
  top_holds = true-Top U names ty.Truth refl σ

  conjoined_holds : (p q : Formula) → T p ≡ true → T q ≡ true → T (conjoined p q) ≡ true
  conjoined_holds p q h k = go (is_top p) (is_top q)
    where
      go : (a b : Bool) → T (if a then q else (if b then p else conjunction p q)) ≡ true
      go true b = k
      go false true = h
      go false false = true-And U names ty.Truth refl σ p q ∙ both_true (T p) (T q) h k

  implied_holds : (p q : Formula) → IsPlain p → (T p ≡ true → T q ≡ true) → T (implied p q) ≡ true
  implied_holds p q plain h = go (is_top q) (is_top p) refl
    where
      go : (a b : Bool) → is_top p ≡ b → T (if a then top else (if b then q else implication p q)) ≡ true
      go true b e = top_holds
      go false true e = h (ap T (plain e) ∙ top_holds)
      go false false e = true-Implies U names ty.Truth refl σ p q ∙ implies_from (T p) (T q) h

  alternative_holds : (p q : Formula) → (T p ≡ false → T q ≡ true) → T (alternative p q) ≡ true
  alternative_holds p q h = go (is_top p) (is_top q)
    where
      cases : (c : Bool) → T p ≡ c → T (disjunction p q) ≡ true
      cases true e = true-Or U names ty.Truth refl σ p q ∙ or_left (T p) (T q) e
      cases false e = true-Or U names ty.Truth refl σ p q ∙ or_right (T p) (T q) (h e)

      go : (a b : Bool) → T (if a then top else (if b then top else disjunction p q)) ≡ true
      go true b = top_holds
      go false true = top_holds
      go false false = cases (T p) refl

  for_every_holds : (own : List Ty) (p : Formula) → ((es : Assignment U) → sorts_are U es ≡ map sort own → true_in U names p (reverse es ++ σ) ≡ true)
      → T (for_every own p) ≡ true
  for_every_holds own p h = go (is_top p)
    where
      go : (a : Bool) → T (if a then top else quantified binder.ForAll own p) ≡ true
      go true = top_holds
      go false = true-ForAll U names ty.Truth refl σ own p ∙ every_of_holds U (map sort own) σ (true_in U names p) h

  all_hold : (conditions : List Formula) (first : Formula) → T first ≡ true → AllByRecursion (λ l. T l ≡ true) conditions → T (fold conjoined first conditions) ≡ true
  all_hold [] first h each = h
  all_hold (l ∷ conditions) first h each = all_hold conditions (conjoined first l) (conjoined_holds first l h each.0) each.1

module _ {carrier : List ℕ → Type 0} (U V : Universe carrier) (names : Valuation carrier) where
  abbrev In : Formula → Assignment U → Type 0
  In f σ = true_in U names f σ ≡ true

  abbrev Also : Formula → Assignment U → Type 0
  Also f σ = true_in V names f σ ≡ true

  -- where its condition is true in one, it is in the other
  abbrev IsAlsoDefined : Formula → Type 0
  IsAlsoDefined f = (types : List Ty) (σ : Assignment U) → IsWellIn f types → FitsTypes σ types → In (wd_of f) σ → Also (wd_of f) σ

  module _ (types : List Ty) (σ : Assignment U) (fits : FitsTypes σ types) where
    same : (f : Formula) → IsWellIn f types → In (wd_of f) σ → denotation U names f σ ≡ denotation V names f σ
    same f w h = each_is_one U V names f types σ w fits h

    all_same : (parts : List Formula) → AllByRecursion (λ p. IsWellIn p types) parts → AllByRecursion (λ l. In l σ) (map wd_of parts)
        → AllByRecursion (λ p. denotation U names p σ ≡ denotation V names p σ) parts
    all_same [] w h = tt
    all_same (p ∷ parts) w h = (same p w.0 h.0, all_same parts w.1 h.1)

    all_also : (parts : List Formula) → AllByRecursion (λ p. IsWellIn p types) parts → AllByRecursion IsAlsoDefined parts → AllByRecursion (λ l. In l σ) (map wd_of parts)
        → AllByRecursion (λ l. Also l σ) (map wd_of parts)
    all_also [] w each h = tt
    all_also (p ∷ parts) w each h = (each.0 types σ w.0 fits h.0, all_also parts w.1 each.1 h.1)

    -- both parts of an operator's condition
    abbrev Whole : Op → List Formula → Formula → Type 0
    Whole o parts operands = Also (conjoined operands (own_condition o parts)) σ

    any_operands : (o : Op) (parts : List Formula) (t : Ty) → AllByRecursion (λ p. IsWellIn p types) parts → AllByRecursion IsAlsoDefined parts
        → row_fits (row_of o) (map type_of parts) t ≡ true → In (fold conjoined top (map wd_of parts)) σ → In (own_condition o parts) σ
        → Whole o parts (fold conjoined top (map wd_of parts))
    any_operands o parts t w each row h own =
        let k = all_tell U names σ (map wd_of parts) top plain_top (conditions_are_plain types parts w) h in
        conjoined_holds V names σ (fold conjoined top (map wd_of parts)) (own_condition o parts)
        (all_hold V names σ (map wd_of parts) top (top_holds V names σ) (all_also parts w each k.1))
        (sym (own_told U V names o parts t σ row (all_same parts w k.1)) ∙ own)

    two_operands : (o : Op) (p q : Formula) (t : Ty) → IsWellIn p types → IsWellIn q types → IsAlsoDefined p → IsAlsoDefined q
        → row_fits (row_of o) (type_of p ∷ type_of q ∷ []) t ≡ true → In (second_guarded o p (wd_of p) (wd_of q)) σ → In (own_condition o (p ∷ q ∷ [])) σ
        → Whole o (p ∷ q ∷ []) (second_guarded o p (wd_of p) (wd_of q))
    two_operands o p q t wp wq one two row h own = go o row h own
      where
        p_plain : IsPlain p
        p_plain = well_is_plain p types wp

        l_plain : IsPlain (wd_of p)
        l_plain = condition_is_plain p types wp

        m_plain : IsPlain (wd_of q)
        m_plain = condition_is_plain q types wq

        l_also : In (wd_of p) σ → Also (wd_of p) σ
        l_also k = one types σ wp fits k

        m_also : In (wd_of q) σ → Also (wd_of q) σ
        m_also k = two types σ wq fits k

        p_truth : is_truth (type_of p) ≡ true → In (wd_of p) σ → true_in U names p σ ≡ true_in V names p σ
        p_truth e k = truth_both U V (denotation U names p σ) (sort_of U names p σ ∙ of_truth (type_of p) e) ∙ ap (truth_value V) (same p wp k)

        connective : is_truth (type_of p) ≡ true → In (conjoined (wd_of p) (implied p (wd_of q))) σ → Also (conjoined (conjoined (wd_of p) (implied p (wd_of q))) top) σ
        connective e h =
            let k = conjoined_tells U names σ (wd_of p) (implied p (wd_of q)) l_plain (plain_implied p (wd_of q) p_plain m_plain) h in
            conjoined_holds V names σ (conjoined (wd_of p) (implied p (wd_of q))) top
            (conjoined_holds V names σ (wd_of p) (implied p (wd_of q)) (l_also k.0)
            (implied_holds V names σ p (wd_of q) p_plain (λ t. m_also (implied_tells U names σ p (wd_of q) m_plain k.1 (p_truth e k.0 ∙ t)))))
            (top_holds V names σ)

        both : (o : Op) → row_fits (row_of o) (type_of p ∷ type_of q ∷ []) t ≡ true → In (conjoined (wd_of p) (wd_of q)) σ → In (own_condition o (p ∷ q ∷ [])) σ
            → Whole o (p ∷ q ∷ []) (conjoined (wd_of p) (wd_of q))
        both o row h own =
            let k = conjoined_tells U names σ (wd_of p) (wd_of q) l_plain m_plain h in
            conjoined_holds V names σ (conjoined (wd_of p) (wd_of q)) (own_condition o (p ∷ q ∷ []))
            (conjoined_holds V names σ (wd_of p) (wd_of q) (l_also k.0) (m_also k.1))
            (sym (own_told U V names o (p ∷ q ∷ []) t σ row (same p wp k.0, (same q wq k.1, tt))) ∙ own)

        go : (o : Op) → row_fits (row_of o) (type_of p ∷ type_of q ∷ []) t ≡ true → In (second_guarded o p (wd_of p) (wd_of q)) σ → In (own_condition o (p ∷ q ∷ [])) σ
            → Whole o (p ∷ q ∷ []) (second_guarded o p (wd_of p) (wd_of q))
        go op.And row h own = connective (first_true _ _ (first_true (is_truth (type_of p) && is_truth (type_of q)) _ row)) h
        go op.Implies row h own = connective (first_true _ _ (first_true (is_truth (type_of p) && is_truth (type_of q)) _ row)) h
        go op.Or row h own =
            let k = conjoined_tells U names σ (wd_of p) (alternative p (wd_of q)) l_plain (plain_alternative p (wd_of q) p_plain m_plain) h in
            let e = first_true _ _ (first_true (is_truth (type_of p) && is_truth (type_of q)) _ row) in
            conjoined_holds V names σ (conjoined (wd_of p) (alternative p (wd_of q))) top
            (conjoined_holds V names σ (wd_of p) (alternative p (wd_of q)) (l_also k.0)
            (alternative_holds V names σ p (wd_of q) (λ t. m_also (alternative_tells U names σ p (wd_of q) p_plain m_plain k.1 (p_truth e k.0 ∙ t)))))
            (top_holds V names σ)
        go o row h own = both o row h own

    operands_also : (o : Op) (parts : List Formula) (t : Ty) → AllByRecursion (λ p. IsWellIn p types) parts → AllByRecursion IsAlsoDefined parts
        → row_fits (row_of o) (map type_of parts) t ≡ true → In (operands_condition o parts (map wd_of parts)) σ → In (own_condition o parts) σ
        → Whole o parts (operands_condition o parts (map wd_of parts))
    operands_also o [] t w each row h own = any_operands o [] t w each row h own
    operands_also o (p ∷ []) t w each row h own = any_operands o (p ∷ []) t w each row h own
    operands_also o (p ∷ q ∷ []) t w each row h own = two_operands o p q t w.0 w.1.0 each.0 each.1.0 row h own
    operands_also o (p ∷ q ∷ r ∷ parts) t w each row h own = any_operands o (p ∷ q ∷ r ∷ parts) t w each row h own

  node_also : (o : Op) (parts : List Formula) (t : Ty) → AllByRecursion IsAlsoDefined parts → IsAlsoDefined (Node o parts t)
  node_also o parts t each types σ w fits h =
      let well = well_parts o parts t types w in
      let k =
      conjoined_tells U names σ (operands_condition o parts (map wd_of parts)) (own_condition o parts) (operands_are_plain o parts types well) (plain_own o parts)
      (sym (ap (λ f. true_in U names f σ) (wd-Node o parts t)) ∙ h) in
      ap (λ f. true_in V names f σ) (wd-Node o parts t) ∙ operands_also types σ fits o parts t well each (row_of_well o parts t types w) k.0 k.1

  module _ (b : Binder) (own : List Ty) (t : Ty) (types : List Ty) (σ : Assignment U) (fits : FitsTypes σ types) where
    abbrev inner : List Ty
    inner = reverse own ++ types

    abbrev Fits : Assignment U → Type 0
    Fits es = sorts_are U es ≡ map sort own

    same_below : (f : Formula) → IsWellIn f inner → (es : Assignment U) → Fits es → In (wd_of f) (reverse es ++ σ)
        → denotation U names f (reverse es ++ σ) ≡ denotation V names f (reverse es ++ σ)
    same_below f w es e h = each_is_one U V names f inner (reverse es ++ σ) w (fits_below own types es σ e fits) h

    also_below : (f : Formula) → IsWellIn f inner → IsAlsoDefined f → (es : Assignment U) → Fits es → In (wd_of f) (reverse es ++ σ) → Also (wd_of f) (reverse es ++ σ)
    also_below f w one es e h = one inner (reverse es ++ σ) w (fits_below own types es σ e fits) h

    one_below : (p : Formula) → IsWellIn p inner → IsAlsoDefined p → In (for_every own (wd_of p)) σ → Also (for_every own (wd_of p)) σ
    one_below p w one h =
        for_every_holds V names σ own (wd_of p) (λ es e. also_below p w one es e (for_every_tells U names σ own (wd_of p) (condition_is_plain p inner w) h es e))

    two_below : (p f : Formula) → IsWellIn p inner → IsWellIn f inner → IsAlsoDefined p → IsAlsoDefined f → is_truth (type_of p) ≡ true
        → In (conjoined (for_every own (conjoined (wd_of p) (implied p (wd_of f)))) (quantified_condition b own p)) σ
        → Also (conjoined (for_every own (conjoined (wd_of p) (implied p (wd_of f)))) (quantified_condition b own p)) σ
    two_below p f wp wf one two p_truth h =
        conjoined_holds V names σ (for_every own (conjoined (wd_of p) (implied p (wd_of f)))) (quantified_condition b own p)
        (for_every_holds V names σ own (conjoined (wd_of p) (implied p (wd_of f))) (λ es e.
        conjoined_holds V names (reverse es ++ σ) (wd_of p) (implied p (wd_of f)) (also_below p wp one es e (both es e).0)
        (implied_holds V names (reverse es ++ σ) p (wd_of f) (well_is_plain p inner wp) (λ t. also_below f wf two es e
        (implied_tells U names (reverse es ++ σ) p (wd_of f) m_plain (both es e).1 (p_same es e ∙ t))))))
        (some_also b whole.1)
      where
        m_plain : IsPlain (wd_of f)
        m_plain = condition_is_plain f inner wf

        l_plain : IsPlain (wd_of p)
        l_plain = condition_is_plain p inner wp

        guarded_plain : IsPlain (implied p (wd_of f))
        guarded_plain = plain_implied p (wd_of f) (well_is_plain p inner wp) m_plain

        whole : In (for_every own (conjoined (wd_of p) (implied p (wd_of f)))) σ × In (quantified_condition b own p) σ
        whole =
            conjoined_tells U names σ (for_every own (conjoined (wd_of p) (implied p (wd_of f)))) (quantified_condition b own p)
            (plain_for_every own (conjoined (wd_of p) (implied p (wd_of f)))) (plain_quantified b own p) h

        both : (es : Assignment U) → Fits es → In (wd_of p) (reverse es ++ σ) × In (implied p (wd_of f)) (reverse es ++ σ)
        both es e =
            conjoined_tells U names (reverse es ++ σ) (wd_of p) (implied p (wd_of f)) l_plain guarded_plain
            (for_every_tells U names σ own (conjoined (wd_of p) (implied p (wd_of f))) (plain_conjoined (wd_of p) (implied p (wd_of f)) l_plain guarded_plain) whole.0 es e)

        p_sort : (τ : Assignment U) → (denotation U names p τ).0 ≡ boolean_sort
        p_sort τ = sort_of U names p τ ∙ of_truth (type_of p) p_truth

        p_same : (es : Assignment U) → Fits es → true_in U names p (reverse es ++ σ) ≡ true_in V names p (reverse es ++ σ)
        p_same es e =
            truth_both U V (denotation U names p (reverse es ++ σ)) (p_sort (reverse es ++ σ)) ∙ ap (truth_value V) (same_below p wp es e (both es e).0)

        some_also : (b : Binder) → In (quantified_condition b own p) σ → Also (quantified_condition b own p) σ
        some_also binder.QuantifiedIntersection k =
            let alike = quantified_alike U V names binder.Exists own p σ (both_true _ _ truth truth) p_sort (λ es e. same_below p wp es e (both es e).0) in
            let told = truth_both U V (denotation U names (quantified binder.Exists own p) σ) (quantified_sort U V names binder.Exists own p σ) ∙ ap (truth_value V) alike in
            sym told ∙ k
        some_also _ k = top_holds V names σ

    binder_also : (parts : List Formula) → AllByRecursion (λ p. IsWellIn p inner) parts → AllByRecursion IsAlsoDefined parts → binder_fits b (map type_of parts) t ≡ true
        → In (binder_condition b own parts (map wd_of parts)) σ → Also (binder_condition b own parts (map wd_of parts)) σ
    binder_also [] w each row h = top_holds V names σ
    binder_also (p ∷ []) w each row h = one_below p w.0 each.0 h
    binder_also (p ∷ f ∷ []) w each row h = two_below p f w.0 w.1.0 each.0 each.1.0 (two_truth b (type_of p) (type_of f) t row) h
    binder_also (p ∷ f ∷ q ∷ parts) w each row h = top_holds V names σ

  bind_also : (b : Binder) (own : List Ty) (parts : List Formula) (t : Ty) → AllByRecursion IsAlsoDefined parts → IsAlsoDefined (Bind b own parts t)
  bind_also b own parts t each types σ w fits h =
      let row = second_true (may_be_bound own) _ (first_true (may_be_bound own && binder_fits b (map type_of parts) t) _ (sym (well-Bind b own parts t types) ∙ w)) in
      ap (λ f. true_in V names f σ) (wd-Bind b own parts t)
      ∙ binder_also b own t types σ fits parts (well_below b own parts t types w) each row (sym (ap (λ f. true_in U names f σ) (wd-Bind b own parts t)) ∙ h)

  pub each_is_defined : (f : Formula) → IsAlsoDefined f
  each_is_defined = formula_induction IsAlsoDefined
      (λ n types σ w fits h. ap (λ f. true_in V names f σ) (wd-Int n) ∙ top_holds V names σ)
      (λ name t types σ w fits h. ap (λ f. true_in V names f σ) (wd-Free name t) ∙ top_holds V names σ)
      (λ k t types σ w fits h. ap (λ f. true_in V names f σ) (wd-Bound k t) ∙ top_holds V names σ)
      node_also bind_also
