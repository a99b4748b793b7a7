-- Each plain rule keeps truth in every reading.
use Rattle.std.proofs.Common.{◌≡◌, ◌∙◌, sym, ap, subst, refl, ℕ, Bool, true, false, List, [], ◌∷◌, Option, Some, None, if◌then◌else◌}
use Rattle.std.specs.Option.{option_and_then, option_map, option_map_or}
use Rattle.std.specs.Ordering.{int_eq}
use Rattle.std.proofs.lemmas.Bool.Decides.{Decides-int_eq}
use Rattle.formula_core.specs.declared.Formula.{Formula}
use Rattle.formula_core.specs.declared.Formula.TheViews.{outs-Node}
use Rattle.formula_core.specs.declared.Op.TheVariants as op
use Rattle.formula_core.specs.declared.Ty.TheVariants as ty
use Rattle.well_defined.specs.Predicates.{top}
use Rattle.rule_table.specs.declared.kind.RuleKind.{RuleKind}
use Rattle.rule_table.specs.declared.kind.RuleKind.TheVariants as kind
use Rattle.rule_table.specs.declared.law.Law.{Law}
use Rattle.rule_table.specs.declared.law.Law.TheVariants as law
use Rattle.rule_table.specs.declared.rule.Body.{Body}
use Rattle.rule_table.specs.Shapes.{bottom, equal, operands_at, two_of, two_operands}
use Rattle.rule_table.specs.Rewriting.{law_of, right_side, rewritten}
use Rattle.rule_table.specs.Rows.{IsInstance, first, chosen_in, last_added, hyp, contr, and_r, and_l, or_r, or_l, imp_r, imp_l, mp, iff_r, iff_l, not_r, not_l, contra, cut, cases, eq_refl, rw_goal, rw_hyp, linear_step_of, backward, forward, proves, adds}
use Rattle.formula_readings.specs.Forms.{are_integers}
use Rattle.formula_readings.specs.Readings.{AtomValues, truth_in, number_by, comparison}
use Rattle.formula_readings.proofs.Truths.{truth_in-two}
use Rattle.plain_logic.specs.Plain.{is_of_integers, keeps_truth, keeps_number, keeps_truth_at, rewrites_plainly, is_plain_kind}
use Rattle.plain_logic.proofs.Found.{some, found, on_two_found}
use Rattle.plain_logic.proofs.LogicKinds.{Keeps, Holds, truth-top, truth-bottom, hyp_keeps, contr_keeps, and_r_keeps, and_l_keeps, or_r_keeps, or_l_keeps, imp_r_keeps, imp_l_keeps, mp_keeps, iff_r_keeps, iff_l_keeps, not_r_keeps, not_l_keeps, contra_keeps, cut_keeps, cases_keeps}
use Rattle.plain_logic.proofs.Laws.{double_negation_keeps, negated_and_keeps, negated_or_keeps, negated_implies_keeps, negated_equivalent_keeps, equal_turned_keeps, negated_less_keeps, negated_at_most_keeps, equal_integers_keeps, less_is_at_most_keeps}
use Rattle.plain_logic.proofs.Computed.{computed_keeps}
use Rattle.plain_logic.proofs.LinearSteps.{linear_keeps}
use Rattle.plain_logic.proofs.Places.{IsSameTruth, IsSameNumber, truth_at}

mapped : {X Y : Type 0} (f : X → Y) (o : Option X) (y : Y) → option_map f o ≡ Some y → (x : X) × (o ≡ Some x) × (f x ≡ y)
mapped f None y e = absurd (cc)
mapped f (Some x) y e = (x, refl, some (f x) y e)

two_equal : (e f : Formula) → two_operands op.Equal (equal e f) ≡ Some (e, f)
two_equal e f = ap (λ x. option_and_then two_of (operands_at op.Equal x)) (outs-Node op.Equal (e ∷ f ∷ []) ty.Truth)

module _ (v : AtomValues) where
  abbrev truth : Formula → Bool
  truth = truth_in v

  abbrev pub KeepsAll : Body → Type 0
  KeepsAll = Keeps (comparison v)

  keeps_law : (l : Law) (f g : Formula) → keeps_truth l f ≡ true → right_side l f ≡ Some g → IsSameTruth v f g
  keeps_law law.DoubleNegation f g h e = double_negation_keeps v f g e
  keeps_law law.NegatedAnd f g h e = negated_and_keeps v f g e
  keeps_law law.NegatedOr f g h e = negated_or_keeps v f g e
  keeps_law law.NegatedImplies f g h e = negated_implies_keeps v f g e
  keeps_law law.NegatedEquivalent f g h e = negated_equivalent_keeps v f g e
  keeps_law law.EqualTurned f g h e = equal_turned_keeps v f g h e
  keeps_law law.NegatedLess f g h e = negated_less_keeps v f g e
  keeps_law law.NegatedAtMost f g h e = negated_at_most_keeps v f g e
  keeps_law law.EqualIntegers f g h e = equal_integers_keeps v f g e
  keeps_law law.LessIsAtMost f g h e = less_is_at_most_keeps v f g e
  keeps_law _ f g h e = absurd (cc)

  reflexive : (g : Formula) (b : Body) → eq_refl g ≡ Some b → option_map_or is_of_integers b.goal false ≡ true → KeepsAll b
  reflexive g b e =
      let x = on_two_found op.Equal g (λ e f. Some (backward (equal e e) [])) b e in
      let n = number_by v.number x.0.0 in
      subst (λ b. option_map_or is_of_integers b.goal false ≡ true → KeepsAll b) (some _ b x.2) (λ p goal is hyps left.
      let both : are_integers x.0.0 x.0.0 ≡ true = sym (ap (λ o. option_map_or (λ q. are_integers q.0 q.1) o false) (two_equal x.0.0 x.0.0)) ∙ p in
      subst (Holds (comparison v)) is (truth_in-two v op.Equal x.0.0 x.0.0 ty.Truth ∙ ap (λ c. if c then int_eq n n else v.truth (equal x.0.0 x.0.0)) both ∙ (Decides-int_eq n n).1 refl))

  keeps_values : (l : Law) (f g : Formula) → keeps_number l f ≡ true → right_side l f ≡ Some g → IsSameNumber v f g
  keeps_values law.Computed f g h e = computed_keeps v f g h e
  keeps_values _ f g h e = absurd (cc)

  rewriting : (law : ℕ) (place : List ℕ) (l : Law) (f new : Formula) → law_of law ≡ Some l → rewritten l place f ≡ Some new
      → rewrites_plainly law place (Some f) ≡ true → truth f ≡ truth new
  rewriting law place l f new a r p =
      let at : keeps_truth_at l place f ≡ true = sym (ap (λ o. option_map_or (λ l. keeps_truth_at l place f) o false) a) ∙ p in
      truth_at v l (keeps_law l) (keeps_values l) place f new at r

  goal_rewritten : (law : ℕ) (place : List ℕ) (g : Formula) (b : Body) → rw_goal law place g ≡ Some b → rewrites_plainly law place (Some g) ≡ true → KeepsAll b
  goal_rewritten law place g b e p =
      let l = found (law_of law) (λ law. option_map (λ new. backward g (proves new ∷ [])) (rewritten law place g)) b e in
      let new = mapped (λ new. backward g (proves new ∷ [])) (rewritten l.0 place g) b l.2 in
      subst KeepsAll new.2 (λ goal is hyps left. subst (Holds (comparison v)) is (rewriting law place l.0 g new.0 l.1 new.1 p ∙ left.0 tt))

  hyp_rewritten : (law : ℕ) (place : List ℕ) (h : Formula) (b : Body) → rw_hyp law place h ≡ Some b → rewrites_plainly law place (Some h) ≡ true → KeepsAll b
  hyp_rewritten law place h b e p =
      let l = found (law_of law) (λ law. option_map (λ new. forward (h ∷ []) (adds (new ∷ []) ∷ [])) (rewritten law place h)) b e in
      let new = mapped (λ new. forward (h ∷ []) (adds (new ∷ []) ∷ [])) (rewritten l.0 place h) b l.2 in
      subst KeepsAll new.2 (λ goal is hyps left. left.0 (sym (rewriting law place l.0 h new.0 l.1 new.1 p) ∙ hyps.0, tt))

  pub plain_keeps : (k : RuleKind) (b : Body) → IsInstance k b → is_plain_kind k b.goal b.hyps ≡ true → KeepsAll b
  plain_keeps kind.Hyp b i p = let x = found b.goal hyp b i in hyp_keeps (comparison v) x.0 b x.2
  plain_keeps kind.Top b i p = subst KeepsAll (some (backward top []) b i) (λ goal is hyps left. subst (Holds (comparison v)) is (truth-top (comparison v)))
  plain_keeps kind.Bot b i p = subst KeepsAll (some (forward (bottom ∷ []) []) b i) (λ goal is hyps left. let never : false ≡ true = sym (truth-bottom (comparison v)) ∙ hyps.0 in absurd (cc))
  plain_keeps kind.Contr b i p = let x = found (first b.hyps) contr b i in contr_keeps (comparison v) x.0 b x.2
  plain_keeps kind.AndR b i p = let x = found b.goal and_r b i in and_r_keeps (comparison v) x.0 b x.2
  plain_keeps kind.AndL b i p = let x = found (first b.hyps) and_l b i in and_l_keeps (comparison v) x.0 b x.2
  plain_keeps kind.OrR b i p = let x = found b.goal or_r b i in or_r_keeps (comparison v) x.0 b x.2
  plain_keeps kind.OrL b i p = let x = found (first b.hyps) or_l b i in or_l_keeps (comparison v) x.0 b x.2
  plain_keeps kind.ImpR b i p = let x = found b.goal imp_r b i in imp_r_keeps (comparison v) x.0 b x.2
  plain_keeps kind.ImpL b i p = let x = found (first b.hyps) imp_l b i in imp_l_keeps (comparison v) x.0 b x.2
  plain_keeps kind.Mp b i p = let x = found (first b.hyps) mp b i in mp_keeps (comparison v) x.0 b x.2
  plain_keeps kind.IffR b i p = let x = found b.goal iff_r b i in iff_r_keeps (comparison v) x.0 b x.2
  plain_keeps kind.IffL b i p = let x = found (first b.hyps) iff_l b i in iff_l_keeps (comparison v) x.0 b x.2
  plain_keeps kind.NotR b i p = let x = found b.goal not_r b i in not_r_keeps (comparison v) x.0 b x.2
  plain_keeps kind.NotL b i p = let x = found (first b.hyps) not_l b i in not_l_keeps (comparison v) x.0 b x.2
  plain_keeps kind.Contra b i p = let x = found b.goal contra b i in contra_keeps (comparison v) x.0 b x.2
  plain_keeps kind.Cut b i p = let x = found (option_and_then (chosen_in kind.Cut) (last_added b.antecedents)) cut b i in cut_keeps (comparison v) x.0 b x.2
  plain_keeps kind.Cases b i p = let x = found (option_and_then (chosen_in kind.Cases) (last_added b.antecedents)) cases b i in cases_keeps (comparison v) x.0 b x.2
  plain_keeps kind.EqRefl b i p = let x = found b.goal eq_refl b i in reflexive x.0 b x.2 p
  plain_keeps (kind.RwGoal law place) b i p =
      let x = found b.goal (rw_goal law place) b i in goal_rewritten law place x.0 b x.2 (ap (rewrites_plainly law place) (sym x.1) ∙ p)
  plain_keeps (kind.RwHyp law place) b i p =
      let x = found (first b.hyps) (rw_hyp law place) b i in hyp_rewritten law place x.0 b x.2 (ap (rewrites_plainly law place) (sym x.1) ∙ p)
  plain_keeps (kind.Linear ks) b i p = let x = found b.goal (linear_step_of ks b.hyps) b i in linear_keeps v ks b.hyps x.0 b x.2
  plain_keeps _ b i p = absurd (cc)
