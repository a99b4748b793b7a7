-- Laws of negations.
use Rattle.std.proofs.Common.{Bool, List, Some, [], ap, map, not, refl, sym, ℕ, ℤ, ◌&&◌, ◌∙◌, ◌∷◌, ◌≡◌, arith, int_le, int_lt}
use Rattle.std.proofs.lemmas.Int.{ints}
use Rattle.formula_core.specs.Rows.{row_of}
use Rattle.formula_core.specs.TypeTable.{row_fits}
use Rattle.formula_core.specs.Types.{is_truth}
use Rattle.formula_core.specs.Wellness.{type_of}
use Rattle.formula_core.specs.declared.Binder.{Binder}
use Rattle.formula_core.specs.declared.Binder.TheVariants as binder
use Rattle.formula_core.specs.declared.Formula.{Formula}
use Rattle.formula_core.specs.declared.Formula.TheVariants.{Bind}
use Rattle.formula_core.specs.declared.Op.{Op}
use Rattle.formula_core.specs.declared.Op.TheVariants as op
use Rattle.formula_core.specs.declared.Ty.{Ty}
use Rattle.well_defined.specs.Predicates.{predicate, quantified}
use Rattle.rule_table.specs.Shapes.{negation, on_one, on_two, under_binder}
use Rattle.rule_table.specs.declared.law.Law.TheVariants as law
use Rattle.meanings.specs.Denotations.{Assignment, denotation}
use Rattle.meanings.specs.Operations.{truth_value}
use Rattle.meanings.specs.Universes.{Valuation, Universe, every_of, some, some_of}
use Rattle.meanings.specs.Values.{Sort, Denotation, boolean_sort, sort}
use Rattle.meanings.proofs.Bools.{and_not, equivalent_not, implies_not, or_not, twice}
use Rattle.meanings.proofs.Denotations.{sort-Truth}
use Rattle.meanings.proofs.Types.{truth_is, type-Bind}
use Rattle.true_laws.proofs.Forms.{is_under}
use Rattle.true_laws.proofs.LeftSides.{on_one_of, on_two_of}
use Rattle.true_laws.proofs.Places.{Keeps, LawKeeps}
use Rattle.true_laws.proofs.Words.{same_values, truth, with_value, words}

not_less : (m n : ℤ) → not (int_lt m n) ≡ int_le n m
not_less m n = grind (arith, ints)

not_at_most : (m n : ℤ) → not (int_le m n) ≡ int_lt n m
not_at_most m n = grind (arith, ints)

module _ {carrier : List ℕ → Type 0} (U : Universe carrier) where
  not_every : (sorts : List Sort) (σ : Assignment U) (p : Assignment U → Bool)
      → some_of U sorts σ (λ τ. not (p τ)) ≡ not (every_of U sorts σ p)
  not_every [] σ p = refl
  not_every (s ∷ sorts) σ p =
      ap (some U s) (λ i v. not_every sorts ((s, v) ∷ σ) p i)
      ∙ twice (some U s (λ v. not (every_of U sorts ((s, v) ∷ σ) p)))

  not_some : (sorts : List Sort) (σ : Assignment U) (p : Assignment U → Bool)
      → every_of U sorts σ (λ τ. not (p τ)) ≡ not (some_of U sorts σ p)
  not_some [] σ p = refl
  not_some (s ∷ sorts) σ p =
      ap not (ap (some U s)
      (λ i v. (ap not (not_some sorts ((s, v) ∷ σ) p) ∙ sym (twice (some_of U sorts ((s, v) ∷ σ) p))) i))

module _ {carrier : List ℕ → Type 0} (U : Universe carrier) (names : Valuation carrier) (P : List ℕ × Ty → Type 0) where
  abbrev M : Formula → Assignment U → Denotation carrier
  M = denotation U names

  -- a negated operator on two, and a negated quantifier: `make` is the right side
  negated : (o : Op) (fit : Ty → Ty → Bool)
      → ((a b t : Ty) → row_fits (row_of o) (a ∷ b ∷ []) t ≡ (fit a b && is_truth t))
      → (make : Formula → Formula → Formula)
      → ((p q : Formula) (σ : Assignment U) → M (make p q) σ ≡ M (negation (predicate o (p ∷ q ∷ []))) σ)
      → Keeps U names P (λ h. on_one op.Not h (λ f. on_two o f (λ p q. Some (make p q))))
  negated o fit row make value h g types ready k =
      let (f, n, there) = on_one_of types op.Not is_truth (λ a t. refl) h ready.0
      (λ f. on_two o f (λ p q. Some (make p q))) g k in
      let (p, q, m, made) = on_two_of types o fit row f n.well (λ p q. Some (make p q)) g there in
      same_values U names (n.is ∙ ap negation m.is) made (value p q)

  pub negated_and_law : LawKeeps U names P law.NegatedAnd
  negated_and_law = negated op.And _ (λ a b t. refl) _ (λ p q σ. simp (words, and_not))

  pub negated_or_law : LawKeeps U names P law.NegatedOr
  negated_or_law = negated op.Or _ (λ a b t. refl) _ (λ p q σ. simp (words, or_not))

  pub negated_implies_law : LawKeeps U names P law.NegatedImplies
  negated_implies_law = negated op.Implies _ (λ a b t. refl) _ (λ p q σ. simp (words, implies_not))

  pub negated_equivalent_law : LawKeeps U names P law.NegatedEquivalent
  negated_equivalent_law = negated op.Equivalent _ (λ a b t. refl) _ (λ p q σ. simp (words, equivalent_not))

  pub negated_less_law : LawKeeps U names P law.NegatedLess
  negated_less_law = negated op.Less _ (λ a b t. refl) _ (λ p q σ. simp (words, not_less))

  pub negated_at_most_law : LawKeeps U names P law.NegatedAtMost
  negated_at_most_law = negated op.LessOrEqual _ (λ a b t. refl) _ (λ p q σ. simp (words, not_at_most))

  pub double_negation_law : LawKeeps U names P law.DoubleNegation
  double_negation_law h g types ready k =
      let (f, n, there) = on_one_of types op.Not is_truth (λ a t. refl) h ready.0 _ g k in
      let (p, m, made) = on_one_of types op.Not is_truth (λ a t. refl) f n.well Some g there in
      same_values U names (n.is ∙ ap negation m.is) made (λ σ.
      with_value U names p boolean_sort (ap sort (truth_is (type_of p) m.fits) ∙ sort-Truth) σ (λ b is.
      simp (is, words) (ap (truth U) (twice b))))

  negated_quantifier : (b c : Binder)
      → ((own : List Ty) (p : Formula) (σ : Assignment U)
      → M (quantified c own (negation p)) σ ≡ M (negation (quantified b own p)) σ)
      → Keeps U names P (λ h. on_one op.Not h (λ f. under_binder b f (λ own p. Some (quantified c own (negation p)))))
  negated_quantifier b c value h g types ready k =
      let (f, n, there) = on_one_of types op.Not is_truth (λ a t. refl) h ready.0 _ g k in
      let (own, p, t, is, made) = is_under g b f (λ own p. Some (quantified c own (negation p))) there in
      let t_is = sym (type-Bind b own (p ∷ []) t) ∙ ap type_of (sym is) ∙ truth_is (type_of f) n.fits in
      same_values U names (n.is ∙ ap negation (is ∙ ap (Bind b own (p ∷ [])) t_is)) made (value own p)

  pub negated_for_all_law : LawKeeps U names P law.NegatedForAll
  negated_for_all_law = negated_quantifier binder.ForAll binder.Exists (λ own p σ.
      simp words (ap (truth U) (not_every U (map sort own) σ (λ τ. truth_value U (M p τ)))))

  pub negated_exists_law : LawKeeps U names P law.NegatedExists
  negated_exists_law = negated_quantifier binder.Exists binder.ForAll (λ own p σ.
      simp words (ap (truth U) (not_some U (map sort own) σ (λ τ. truth_value U (M p τ)))))
