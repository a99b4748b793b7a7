-- The rules of equations, of truth values and of cardinals, and rewriting by a law keep truth.
use Rattle.std.proofs.Common.{Bool, IfSome, List, Some, [], ap, false, int_le, not, pos, refl, subst, sym, true, ℕ, ℤ, ◌∙◌, ◌∷◌, ◌≡◌}
use Rattle.formula_core.proofs.Weakening.{first_true}
use Rattle.formula_core.specs.Types.{is_boolean, members}
use Rattle.formula_core.specs.Typed.{Stands}
use Rattle.formula_core.specs.Wellness.{type_of}
use Rattle.formula_core.specs.declared.Formula.{Formula}
use Rattle.formula_core.specs.declared.Formula.TheVariants.{Node}
use Rattle.formula_core.specs.declared.Op.TheVariants as op
use Rattle.formula_core.specs.declared.Ty.{Ty}
use Rattle.formula_core.specs.declared.Ty.TheVariants as ty
use Rattle.well_defined.specs.Conditions.{wd_of}
use Rattle.well_defined.specs.Predicates.{finite, zero as zero_literal}
use Rattle.rule_table.specs.Rewriting.{law_of, replaced, replaced_over, rewritten}
use Rattle.rule_table.specs.Rows.{bool_cases, card_nat, eq_goal, eq_hyp, eq_refl, forward, over_other, rw_goal, rw_hyp}
use Rattle.rule_table.specs.Shapes.{cardinality, equal, false_value, true_value}
use Rattle.rule_table.specs.declared.kind.RuleKind.TheVariants as kind
use Rattle.rule_table.specs.declared.law.Law.{Law}
use Rattle.meanings.specs.Denotations.{holds, denotation}
use Rattle.meanings.specs.Interpretations.{NamesCarriers}
use Rattle.meanings.specs.Operations.{contains, has_at_most, least_number, member_sort, truth_value, whole_number}
use Rattle.meanings.specs.Universes.{Valuation, Universe, some}
use Rattle.meanings.specs.Values.{Sort, Denotation, boolean_sort, integer_sort, sort}
use Rattle.meanings.proofs.Casts.{cast_known}
use Rattle.meanings.proofs.Denotations.{denotation-Int, sort-Bool, sort-Int, sort-Truth, sort_of}
use Rattle.meanings.proofs.Equalities.{equal_truth, equal_types, equation_holds, equation_tells}
use Rattle.meanings.proofs.Fitting.{IsWellIn, OfEach, well_parts}
use Rattle.meanings.proofs.LeastNumbers.{least_passes}
use Rattle.meanings.proofs.Truths.{at_node, true-Not}
use Rattle.meanings.proofs.Types.{boolean_is, type-Node}
use Rattle.true_laws.proofs.Places.{LawHolds, kept_at}
use Rattle.true_laws.proofs.Words.{at_most_means, not_types}
use Rattle.true_rules.proofs.NewNames.{Identifiers}
use Rattle.true_rules.proofs.Replacing.{replaced_holds, replaced_over_holds}
use Rattle.true_rules.proofs.Rows.{IsLeft, Row, True, after, at_one, at_two, by_cases, each, each_made, if_so, keeping, none_after}

module _ {carrier : List ℕ → Type 0} (U : Universe carrier) (env : Identifiers) (names : Valuation carrier) where
  abbrev M : Formula → Denotation carrier
  M f = denotation U names f []

  pub row-eq_refl : (g : Formula) → IfSome (eq_refl g) (Row U names env kind.EqRefl)
  row-eq_refl g = at_two _ op.Equal g _ (λ e f t is. keeping U names refl (λ sound named goal same hyps left.
      subst (True U names) same (equation_holds U names ty.Truth refl [] e e refl)))

  -- with a true equation, a formula is true with the right side in the place of the left exactly where it is true
  replacing : (h e f : Formula) (t : Ty) → h ≡ Node op.Equal (e ∷ f ∷ []) t → IsWellIn h [] → True U names h
      → (g : Formula) → IsWellIn g []
      → holds U names (replaced e f g) ≡ holds U names g
  replacing h e f t is well held =
      let here = subst (λ h. IsWellIn h []) is well in let parts = well_parts op.Equal (e ∷ f ∷ []) t [] here in
      replaced_holds U names e f parts.0 parts.1.0
      (equation_tells U names t (equal_truth e f t [] here) [] e f (equal_types e f t [] here)
      (subst (True U names) is held))

  pub row-eq_goal : (g h : Formula) → IfSome (eq_goal g h) (Row U names env kind.EqGoal)
  row-eq_goal g h = at_two _ op.Equal h _ (λ e f t is. keeping U names refl (λ sound named goal same hyps left.
      subst (True U names) same
      (sym (replacing h e f t is sound.formulas.1.0.well hyps.0 g sound.formulas.0.well) ∙ left.0 tt)))

  pub row-eq_hyp : (h j : Formula) → IfSome (eq_hyp h j) (Row U names env kind.EqHyp)
  row-eq_hyp h j = at_two _ op.Equal h _ (λ e f t is. keeping U names refl (λ sound named goal same hyps left.
      left.0 (replacing h e f t is sound.formulas.0.well hyps.0 j sound.formulas.1.0.well ∙ hyps.1.0, tt)))

  pub row-over_other : (g h : Formula) → IfSome (over_other g h) (Row U names env kind.OverOther)
  row-over_other g h = at_one _ op.Not h _
      (λ q u is. at_two _ op.Equal q _ (λ z x t q_is. keeping U names refl (λ sound named goal same hyps left.
      let not_well = subst (λ h. IsWellIn h []) is sound.formulas.1.0.well in
      let well = subst (λ q. IsWellIn q []) q_is (well_parts op.Not (q ∷ []) u [] not_well).0 in
      let parts = well_parts op.Equal (z ∷ x ∷ []) t [] well in
      let failed = sym (true-Not U names u (not_types q u [] not_well).1 [] q) ∙ subst (True U names) is hyps.0 in
      let apart : M z ≡ M x → ⊥ = λ one.
      (let held = ap (holds U names) q_is ∙ equation_holds U names t (equal_truth z x t [] well) [] z x one in
      let k : false ≡ true = sym (ap not held) ∙ failed in absurd cc) in
      subst (True U names) same
      (sym (replaced_over_holds U names z x parts.0 parts.1.0 (equal_types z x t [] well) apart g sound.formulas.0.well)
      ∙ left.0 tt))))

  -- truth values
  true_is : M true_value ≡ (boolean_sort, true)
  true_is = at_node U names op.TrueValue [] ty.Bool boolean_sort sort-Bool []

  false_is : M false_value ≡ (boolean_sort, false)
  false_is = at_node U names op.FalseValue [] ty.Bool boolean_sort sort-Bool []

  pub row-bool_diff : Row U names env kind.BoolDiff (forward (equal true_value false_value ∷ []) [])
  row-bool_diff = keeping U names refl (λ sound named goal same hyps left.
      let types = type-Node op.FalseValue [] ty.Bool ∙ sym (type-Node op.TrueValue [] ty.Bool) in
      let one = equation_tells U names ty.Truth refl [] true_value false_value types hyps.0 in
      let k : true ≡ false = ap (truth_value U) (sym true_is ∙ one ∙ false_is) in absurd cc)

  pub row-bool_cases : (e : Formula) → IfSome (bool_cases e) (Row U names env kind.BoolCases)
  row-bool_cases e = if_so _ (is_boolean (type_of e)) _
      (λ boolean. keeping U names (none_after (wd_of e) _ refl) (λ sound named goal same hyps left.
      let rest = after (IsLeft U names goal) (wd_of e) _ left in
      let e_is : (boolean_sort, truth_value U (M e)) ≡ M e =
      cast_known U (M e) boolean_sort (sort_of U names e [] ∙ ap sort (boolean_is (type_of e) boolean) ∙ sort-Bool) in
      let holds_for : (c : Bool) (f : Formula) → M f ≡ (boolean_sort, c) → truth_value U (M e) ≡ c
      → True U names (equal e f) =
      λ c f f_is k. equation_holds U names ty.Truth refl [] e f (sym e_is ∙ (λ i. (boolean_sort, k i)) ∙ sym f_is) in
      by_cases (truth_value U (M e)) (λ k. rest.0 (holds_for true true_value true_is k, tt))
      (λ k. rest.1.0 (holds_for false false_value false_is k, tt))))

  -- cardinals
  pub row-card_nat : (f : Formula) → IfSome (card_nat f) (Row U names env kind.CardNat)
  row-card_nat f = each _ (members (type_of f)) _
      (λ α e. keeping U names (none_after (wd_of f) _ refl) (λ sound named goal same hyps left.
      let rest = after (IsLeft U names goal) (wd_of f) _ left in
      let a : Sort = member_sort (M f).0 in let test : ℤ → Bool = has_at_most U a (contains U (M f) a) in
      let is : some U integer_sort test ≡ true =
      sym (ap (truth_value U) (at_node U names op.Finite (f ∷ []) ty.Truth boolean_sort sort-Truth [])) ∙ rest.0 tt in
      let passes = least_passes U test (λ n t. first_true (int_le (pos 0) n) _ t) is in
      let number : whole_number U (M (cardinality f)) ≡ least_number U test =
      ap (whole_number U) (at_node U names op.Cardinality (f ∷ []) ty.Int integer_sort sort-Int []) in
      let at_least = ap (truth_value U) (at_most_means U names zero_literal (cardinality f) [])
      ∙ (λ i. int_le (whole_number U (denotation-Int U names (pos 0) [] i)) (number i))
      ∙ first_true (int_le (pos 0) (least_number U test)) _ passes in rest.1.0 (at_least, tt)))

  -- rewriting
  module _ (laws : (law : Law) → LawHolds U law) (sets : NamesCarriers U env names) (place : List ℕ) where
    same_truth : (law : Law) (f g : Formula) → IsWellIn f [] → OfEach (Stands env) f → rewritten law place f ≡ Some g
        → holds U names g ≡ holds U names f
    same_truth law f g well own is = λ i.
        truth_value U (kept_at U names (Stands env) law (laws law env names sets) place f g [] (well, own) is i [])

    pub row-rw_goal : (law : ℕ) (g : Formula) → IfSome (rw_goal law place g) (Row U names env (kind.RwGoal law place))
    row-rw_goal law g = each _ (law_of law) _
        (λ l e. each_made _ (rewritten l place g) _ (λ new is. keeping U names refl (λ sound named goal same hyps left.
        subst (True U names) same (sym (same_truth l g new sound.formulas.0.well named.0 is) ∙ left.0 tt))))

    pub row-rw_hyp : (law : ℕ) (h : Formula) → IfSome (rw_hyp law place h) (Row U names env (kind.RwHyp law place))
    row-rw_hyp law h = each _ (law_of law) _
        (λ l e. each_made _ (rewritten l place h) _ (λ new is. keeping U names refl (λ sound named goal same hyps left.
        left.0 (same_truth l h new sound.formulas.0.well named.0 is ∙ hyps.0, tt))))
