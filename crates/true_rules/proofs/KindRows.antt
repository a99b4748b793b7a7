-- Each kind of rule keeps truth, as the table makes it, and what a tree derives is true.
use Rattle.std.proofs.Common.{Bool, Contains, IfSome, List, None, Option, Some, [], ap, append-nil, cond, false, map, refl, subst, sym, true, ℕ, ◌&&◌, ◌++◌, ◌∙◌, ◌∷◌, ◌≡◌}
use Rattle.std.specs.List.{AllByRecursion}
use Rattle.std.specs.Prelude.{filter, not}
use Rattle.formula_core.proofs.Keeping.{all_more, back, both, front}
use Rattle.formula_core.specs.Formulas.{joined}
use Rattle.formula_core.specs.Typed.{IsPredicateIn, Stands}
use Rattle.formula_core.specs.Types.{is_truth}
use Rattle.formula_core.specs.Wellness.{type_of}
use Rattle.formula_core.specs.declared.Formula.{Formula}
use Rattle.formula_core.specs.declared.Op.TheVariants as op
use Rattle.formula_core.specs.declared.Ty.{Ty}
use Rattle.well_defined.specs.Conditions.{wd_of}
use Rattle.rule_table.proofs.InOrder.{filter_added}
use Rattle.rule_table.specs.Linear.{has_linear_form, is_positive_constant, linear_sum}
use Rattle.rule_table.specs.Parts.{is_review}
use Rattle.rule_table.specs.Rows.{IsInstance, first, instance, main_of, with_two}
use Rattle.rule_table.specs.Rules.{IsSound, added_by, antecedent_formulas, body_of, formulas_of, is_named, names_in, needed_formulas, sorted_by_name, terms_of, used_of}
use Rattle.rule_table.specs.Shapes.{operand, two_operands}
use Rattle.rule_table.specs.declared.kind.RuleKind.{RuleKind}
use Rattle.rule_table.specs.declared.kind.RuleKind.TheVariants as kind
use Rattle.rule_table.specs.declared.law.Law.{Law}
use Rattle.rule_table.specs.declared.rule.Main.{Main}
use Rattle.rule_table.specs.declared.rule.Antecedent.{Antecedent}
use Rattle.rule_table.specs.declared.rule.Body.{Body}
use Rattle.rule_table.specs.declared.rule.Rule.{Rule}
use Rattle.sequent_core.specs.Sequents.{IsSequent}
use Rattle.sequent_core.specs.Trees.{Derives, extended}
use Rattle.sequent_core.specs.declared.sequent.Sequent.{Sequent}
use Rattle.sequent_core.specs.declared.tree.Tree.{Tree}
use Rattle.meanings.specs.Denotations.{AreTrue}
use Rattle.meanings.specs.Interpretations.{NamesCarriers}
use Rattle.meanings.specs.Universes.{Valuation, Universe}
use Rattle.meanings.proofs.Fitting.{OfEach, of_joined}
use Rattle.meanings.proofs.Lists.{all_contained}
use Rattle.true_laws.proofs.Places.{LawHolds}
use Rattle.plain_logic.specs.Plain.{is_plain_kind}
use Rattle.true_rules.proofs.Derivation.{IsLeftGood, RuleKeeps, derived}
use Rattle.true_rules.proofs.EqualityRows.{row-bool_cases, row-bool_diff, row-card_nat, row-eq_goal, row-eq_hyp, row-eq_refl, row-over_other, row-rw_goal, row-rw_hyp}
use Rattle.true_rules.proofs.FunctionRows.{row-fun_eq, row-fun_in}
use Rattle.true_rules.proofs.NewNames.{Identifiers, IsNamed, found_in, left_named, longer}
use Rattle.true_rules.proofs.PlainRows.{plain_kept}
use Rattle.true_rules.proofs.QuantifierRows.{Good, NewRow, row-all_l, row-all_r, row-ex_l, row-ex_r}
use Rattle.true_rules.proofs.Rows.{IsLeft, Keeps, Row, True, by_cases, each, if_so, none_after, plain_row, told}
use Rattle.true_rules.specs.Validity.{Satisfies}

abbrev adds_names : RuleKind → Bool
adds_names kind.AllR = true
adds_names kind.ExL = true
adds_names _ = false

module _ {carrier : List ℕ → Type 0} (U : Universe carrier) (laws : (law : Law) → LawHolds U law) where
  module _ (env : Identifiers) (names : Valuation carrier) (sets : NamesCarriers U env names) where
    of_two : (P : Body → Type 0) (hs : List Formula) (make : Formula → Formula → Option Body)
        → ((h j : Formula) → IfSome (make h j) P) → IfSome (with_two hs make) P
    of_two P [] make f = tt
    of_two P (h ∷ []) make f = tt
    of_two P (h ∷ j ∷ hs) make f = f h j

    plain : {k : RuleKind} {b : Body} → added_by b ≡ [] → is_plain_kind k b.goal b.hyps ≡ true → Row U names env k b
    plain = plain_row U names

    -- the rows of the table
    row : (k : RuleKind) → adds_names k ≡ false → is_review k ≡ false → (m : Main)
        → IfSome (instance k m) (Row U names env k)
    row kind.Hyp a r m = each _ m.goal _ (λ g e. plain refl refl)
    row kind.Top a r m = plain refl refl
    row kind.Bot a r m = plain refl refl
    row kind.Contr a r m = each _ (first m.hyps) _ (λ p e. plain refl refl)
    row kind.AndR a r m = each _ m.goal _ (λ g e. each _ (two_operands op.And g) _ (λ x e. plain refl refl))
    row kind.AndL a r m = each _ (first m.hyps) _ (λ h e. each _ (two_operands op.And h) _ (λ x e. plain refl refl))
    row kind.OrR a r m = each _ m.goal _ (λ g e. each _ (two_operands op.Or g) _ (λ x e. plain refl refl))
    row kind.OrL a r m = each _ (first m.hyps) _ (λ h e. each _ (two_operands op.Or h) _ (λ x e. plain refl refl))
    row kind.ImpR a r m = each _ m.goal _ (λ g e. each _ (two_operands op.Implies g) _ (λ x e. plain refl refl))
    row kind.ImpL a r m = each _ (first m.hyps) _ (λ h e. each _ (two_operands op.Implies h) _ (λ x e. plain refl refl))
    row kind.Mp a r m = each _ (first m.hyps) _ (λ h e. each _ (two_operands op.Implies h) _ (λ x e. plain refl refl))
    row kind.IffR a r m = each _ m.goal _ (λ g e. each _ (two_operands op.Equivalent g) _ (λ x e. plain refl refl))
    row kind.IffL a r m = each _ (first m.hyps) _
        (λ h e. each _ (two_operands op.Equivalent h) _ (λ x e. plain refl refl))
    row kind.NotR a r m = each _ m.goal _ (λ g e. each _ (operand op.Not g) _ (λ p e. plain refl refl))
    row kind.NotL a r m = each _ (first m.hyps) _ (λ h e. each _ (operand op.Not h) _ (λ p e. plain refl refl))
    row kind.Contra a r m = each _ m.goal _ (λ g e. plain refl refl)
    row kind.AllR a r m = absurd cc
    row (kind.AllL terms) a r m = each _ (first m.hyps) _ (λ h e. row-all_l U env names terms h)
    row (kind.ExR terms) a r m = each _ m.goal _ (λ g e. row-ex_r U env names terms g)
    row kind.ExL a r m = absurd cc
    row kind.Cut a r m = each _ m.chosen _
        (λ p e. if_so _ (is_truth (type_of p)) _ (λ is. plain (none_after (wd_of p) _ refl) refl))
    row kind.Cases a r m = each _ m.chosen _
        (λ p e. if_so _ (is_truth (type_of p)) _ (λ is. plain (none_after (wd_of p) _ refl) refl))
    row kind.Review a r m = absurd cc
    row kind.EqRefl a r m = each _ m.goal _ (λ g e. row-eq_refl U env names g)
    row kind.EqGoal a r m = each _ m.goal _ (λ g e. each _ (first m.hyps) _ (λ h e. row-eq_goal U env names g h))
    row kind.EqHyp a r m = of_two _ m.hyps _ (row-eq_hyp U env names)
    row kind.BoolCases a r m = each _ m.chosen _ (λ x e. row-bool_cases U env names x)
    row kind.BoolDiff a r m = row-bool_diff U env names
    row (kind.RwGoal law place) a r m = each _ m.goal _ (λ g e. row-rw_goal U env names laws sets place law g)
    row (kind.RwHyp law place) a r m = each _ (first m.hyps) _ (λ h e. row-rw_hyp U env names laws sets place law h)
    row (kind.Linear ks) a r m = each _ m.goal _ (λ g e.
        if_so _ (has_linear_form g m.hyps ks && is_positive_constant (linear_sum g m.hyps ks)) _
        (λ is. plain refl refl))
    row kind.CardNat a r m = each _ m.chosen _ (λ s e. row-card_nat U env names s)
    row kind.FunIn a r m = each _ (first m.hyps) _ (λ h e. each _ m.chosen _ (λ x e. row-fun_in U env names h x))
    row kind.FunEq a r m = of_two _ m.hyps _ (row-fun_eq U env names)
    row kind.OverOther a r m = each _ m.goal _ (λ g e. each _ (first m.hyps) _ (λ h e. row-over_other U env names g h))

  module _ (s : Sequent) (named : IsNamed s) where
    abbrev Old : Formula → Type 0
    Old = OfEach (Stands s.env)

    -- the formulas of a rule that adds no names speak of names that stand in the environment
    names_stand : (k : RuleKind) (b : Body) (used : Identifiers) → IsSound k b → used ≡ used_of k b → added_by b ≡ []
        → AllByRecursion (Stands s.env) used
        → AllByRecursion Old (formulas_of k b)
    names_stand k b used sound is none all =
        let found : Identifiers = names_in (formulas_of k b) in
        let all_found : used ≡ sorted_by_name found =
        is ∙ (λ i. sorted_by_name (filter (λ x. not (is_named (none i) x.0)) found))
        ∙ ap sorted_by_name (filter_added found) in
        let sorted = subst (AllByRecursion (Stands s.env)) all_found all in
        of_joined (Stands s.env) (formulas_of k b)
        (all_more (Stands (sorted_by_name found)) (Stands s.env)
        (found_in (Stands s.env) (sorted_by_name found) sorted) found sound.one_type)

    no_parts : (xs ys : Identifiers) → xs ++ ys ≡ [] → (xs ≡ []) × (ys ≡ [])
    no_parts [] ys e = (refl, e)
    no_parts (x ∷ xs) ys e = absurd cc

    -- what such a rule leaves, where the hypotheses are true
    each_left : (names : Valuation carrier) → NamesCarriers U s.env names → AreTrue U names s.hyps
        → (ants : List Antecedent) → joined (map (λ (a : Antecedent). a.idents) ants) ≡ []
        → AllByRecursion Old (joined (map antecedent_formulas ants)) → AllByRecursion (IsLeftGood (Good U) s) ants
        → AllByRecursion (IsLeft U names s.goal) ants
    each_left names sets held [] none old left = tt
    each_left names sets held (a ∷ ants) none old left =
        let others = joined (map antecedent_formulas ants) in
        let parts = no_parts a.idents (joined (map (λ (a : Antecedent). a.idents) ants)) none in
        let now = left_named s named a
        (all_more Old (OfEach (Stands (s.env ++ a.idents))) (longer s.env a.idents) (antecedent_formulas a)
        (front Old (antecedent_formulas a) others old)) in
        let sets_now = subst (λ env. NamesCarriers U env names)
        (sym (append-nil s.env) ∙ (λ i. s.env ++ sym parts.0 i)) sets in (
          λ added. left.0.1 now names sets_now (both (True U names) s.hyps a.hyps held added),
          each_left names sets held ants parts.1 (back Old (antecedent_formulas a) others old) left.1,
        )

    abbrev Kept : RuleKind → Type 0
    Kept k = (r : Rule) → IsInstance k (body_of r) → IsSound k (body_of r) → r.used ≡ used_of k (body_of r)
        → IfSome r.needed_goal (λ g. g ≡ s.goal)
        → AllByRecursion (Contains s.hyps) r.needed_hyps → AllByRecursion (Stands s.env) r.used
        → AllByRecursion (IsLeftGood (Good U) s) r.antecedents → Satisfies U s

    kept : (k : RuleKind) → adds_names k ≡ false → is_review k ≡ false → Kept k
    kept k none rev r made sound used goal hyps stand left names sets held =
        let b = body_of r in
        let row_is = told (Row U names s.env k) (instance k (main_of k b)) b
        (row s.env names sets k none rev (main_of k b)) made in
        let old = names_stand k b r.used sound used row_is.adds_none stand in
        let others = joined (map antecedent_formulas r.antecedents) in
        let old_left = back Old (needed_formulas b) others (front Old (needed_formulas b ++ others) (terms_of k) old) in
        let keeps : Keeps U names b = by_cases (is_plain_kind k b.goal b.hyps) (plain_kept U names k b made sound)
        (λ p. row_is.keeps p sound old) in
        keeps s.goal goal (all_more (Contains s.hyps) (True U names)
        (λ h c. all_contained (True U names) s.hyps h held c) r.needed_hyps hyps)
        (each_left names sets held r.antecedents row_is.adds_none old_left left)

    kind_kept : (k : RuleKind) → is_review k ≡ false → Kept k
    kind_kept kind.AllR rev = λ r made sound used goal hyps stand left.
        let m = main_of kind.AllR (body_of r) in
        told (NewRow U s named kind.AllR) (instance kind.AllR m) (body_of r)
        (each _ m.goal _ (λ g e. row-all_r U s named m.names g)) made goal hyps sound left
    kind_kept kind.ExL rev = λ r made sound used goal hyps stand left.
        let m = main_of kind.ExL (body_of r) in
        told (NewRow U s named kind.ExL) (instance kind.ExL m) (body_of r)
        (each _ (first m.hyps) _ (λ h e. row-ex_l U s named m.names h)) made goal hyps sound left
    kind_kept k rev = kept k refl rev

  rule_keeps : (r : Rule) → RuleKeeps (Good U) r
  rule_keeps r s is meets rev left named =
      kind_kept s named r.kind rev r is.instance is.sound is.used meets.goal meets.hyps meets.used left

  pub derived_is_true : (tree : Tree) (s : Sequent) → IsSequent s → Derives tree s → Satisfies U s
  derived_is_true tree s is derives =
      let hyps = all_more (IsPredicateIn s.env) (OfEach (Stands s.env)) (λ f h. h.0.names) s.hyps is.hyps in
      derived (Good U) rule_keeps tree s derives (record { hyps = hyps; goal = is.goal.0.names })
