-- The kinds of logic keep truth, in every propositional reading.
use Rattle.std.proofs.Common.{◌≡◌, ◌∙◌, sym, ap, subst, refl, Bool, true, false, not, ◌||◌, List, [], ◌∷◌, Some, None, if◌then◌else◌}
use Rattle.std.specs.List.{AllByRecursion}
use Rattle.std.specs.Prelude.{IfSome, unwrap_or}
use Rattle.formula_core.specs.declared.Op.{Op}
use Rattle.formula_core.specs.declared.Op.TheVariants as op
use Rattle.formula_core.specs.declared.Ty.TheVariants as ty
use Rattle.formula_core.specs.declared.Formula.{Formula}
use Rattle.formula_core.specs.Types.{is_truth}
use Rattle.formula_core.specs.Wellness.{type_of}
use Rattle.formula_core.proofs.Weakening.{first_true, second_true, both_true}
use Rattle.well_defined.specs.Predicates.{top, implication}
use Rattle.well_defined.specs.Conditions.{wd_of}
use Rattle.well_defined.specs.Connectives.{is_top}
use Rattle.rule_table.specs.declared.rule.Antecedent.{Antecedent}
use Rattle.rule_table.specs.declared.rule.Body.{Body}
use Rattle.rule_table.specs.Shapes.{operand, two_operands, negation, bottom}
use Rattle.rule_table.specs.Rows.{proves, adds, assumes, after_condition, backward, forward, hyp, contr, and_r, and_l, or_r, or_l, imp_r, imp_l, mp, iff_r, iff_l, not_r, not_l, contra, cut, cases}
use Rattle.formula_readings.specs.Readings.{binary_truth, truth_by}
use Rattle.formula_readings.proofs.Truths.{truth-none, truth-one, truth-two}
use Rattle.plain_logic.proofs.Found.{some, one_is, two_are, on_one_found, on_two_found}

-- on truth values
or_right : (p q : Bool) → (not p ≡ true → q ≡ true) → (p || q) ≡ true
or_right true q h = refl
or_right false q h = h refl

or_left : (p q r : Bool) → (p || q) ≡ true → (p ≡ true → r ≡ true) → (q ≡ true → r ≡ true) → r ≡ true
or_left true q r h f g = f refl
or_left false q r h f g = g h

implies_right : (p q : Bool) → (p ≡ true → q ≡ true) → (not p || q) ≡ true
implies_right true q h = h refl
implies_right false q h = refl

implied : (p q : Bool) → (not p || q) ≡ true → p ≡ true → q ≡ true
implied true q h k = h
implied false q h k = cc

equivalent_right : (p q : Bool) → (not p || q) ≡ true → (not q || p) ≡ true → (if p then q else not q) ≡ true
equivalent_right true q h k = h
equivalent_right false true h k = k
equivalent_right false false h k = refl

equivalent_first : (p q : Bool) → (if p then q else not q) ≡ true → (not p || q) ≡ true
equivalent_first true q h = h
equivalent_first false q h = refl

equivalent_second : (p q : Bool) → (if p then q else not q) ≡ true → (not q || p) ≡ true
equivalent_second true true h = refl
equivalent_second true false h = refl
equivalent_second false true h = h
equivalent_second false false h = refl

not_right : (p : Bool) → (p ≡ true → false ≡ true) → not p ≡ true
not_right true h = h refl
not_right false h = refl

not_left : (p r : Bool) → not p ≡ true → p ≡ true → r ≡ true
not_left true r h k = cc
not_left false r h k = cc

by_contradiction : (p : Bool) → (not p ≡ true → false ≡ true) → p ≡ true
by_contradiction true h = refl
by_contradiction false h = h refl

in_cases : (p r : Bool) → (p ≡ true → r ≡ true) → (not p ≡ true → r ≡ true) → r ≡ true
in_cases true r f g = f refl
in_cases false r f g = g refl

module _ (atom : Formula → Bool) where
  abbrev truth : Formula → Bool
  truth = truth_by atom

  abbrev pub Holds : Formula → Type 0
  Holds f = truth f ≡ true

  -- what an antecedent leaves is true, where the goal is `g`
  abbrev pub IsLeftTrue : Formula → Antecedent → Type 0
  IsLeftTrue g a = AllByRecursion Holds a.hyps → Holds (unwrap_or a.goal g)

  -- a goal is true where what is needed and what is left are
  abbrev pub Keeps : Body → Type 0
  Keeps b = (g : Formula) → IfSome b.goal (λ x. x ≡ g) → AllByRecursion Holds b.hyps → AllByRecursion (IsLeftTrue g) b.antecedents → Holds g

  pub truth-negation : (p : Formula) → truth (negation p) ≡ not (truth p)
  truth-negation p = truth-one atom op.Not p ty.Truth

  pub truth-implication : (p q : Formula) → truth (implication p q) ≡ (not (truth p) || truth q)
  truth-implication p q = truth-two atom op.Implies p q ty.Truth

  pub truth-bottom : truth bottom ≡ false
  truth-bottom = truth-none atom op.Bottom ty.Truth

  pub truth-top : truth top ≡ true
  truth-top = truth-none atom op.Top ty.Truth

  pub truth_of_one : (f p : Formula) → operand op.Not f ≡ Some p → truth f ≡ not (truth p)
  truth_of_one f p e = let x = one_is op.Not f p e in ap truth x.1 ∙ truth-one atom op.Not p x.0

  pub truth_of_two : (o : Op) (f : Formula) (x : Formula × Formula) → two_operands o f ≡ Some x → (a : Bool) × (truth f ≡ binary_truth o a (truth x.0) (truth x.1))
  truth_of_two o f x e = let y = two_are o f x e in (_, ap truth y.1 ∙ truth-two atom o x.0 x.1 y.0)

  negation_holds : (p : Formula) → not (truth p) ≡ true → Holds (negation p)
  negation_holds p h = truth-negation p ∙ h

  absurdly : Holds bottom → false ≡ true
  absurdly h = sym truth-bottom ∙ h

  pub hyp_keeps : (g : Formula) (b : Body) → hyp g ≡ Some b → Keeps b
  hyp_keeps g b e = subst Keeps (some _ b e) (λ goal is hyps left. subst Holds is hyps.0)

  pub contr_keeps : (p : Formula) (b : Body) → contr p ≡ Some b → Keeps b
  contr_keeps p b e = subst Keeps (some _ b e) (λ goal is hyps left. not_left (truth p) (truth goal) (sym (truth-negation p) ∙ hyps.1.0) hyps.0)

  pub and_r_keeps : (g : Formula) (b : Body) → and_r g ≡ Some b → Keeps b
  and_r_keeps g b e =
      let x = on_two_found op.And g (λ p q. Some (backward g (proves p ∷ proves q ∷ []))) b e in
      let d = truth_of_two op.And g x.0 x.1 in
      subst Keeps (some _ b x.2) (λ goal is hyps left. subst Holds is (d.1 ∙ both_true _ _ (left.0 tt) (left.1.0 tt)))

  pub and_l_keeps : (h : Formula) (b : Body) → and_l h ≡ Some b → Keeps b
  and_l_keeps h b e =
      let x = on_two_found op.And h (λ p q. Some (forward (h ∷ []) (adds (p ∷ q ∷ []) ∷ []))) b e in
      let d = truth_of_two op.And h x.0 x.1 in
      subst Keeps (some _ b x.2) (λ goal is hyps left. left.0 (first_true _ _ (sym d.1 ∙ hyps.0), (second_true _ _ (sym d.1 ∙ hyps.0), tt)))

  pub or_r_keeps : (g : Formula) (b : Body) → or_r g ≡ Some b → Keeps b
  or_r_keeps g b e =
      let x = on_two_found op.Or g (λ p q. Some (backward g (assumes (negation p) q ∷ []))) b e in
      let d = truth_of_two op.Or g x.0 x.1 in
      subst Keeps (some _ b x.2) (λ goal is hyps left. subst Holds is (d.1 ∙ or_right _ _ (λ n. left.0 (negation_holds x.0.0 n, tt))))

  pub or_l_keeps : (h : Formula) (b : Body) → or_l h ≡ Some b → Keeps b
  or_l_keeps h b e =
      let x = on_two_found op.Or h (λ p q. Some (forward (h ∷ []) (adds (p ∷ []) ∷ adds (q ∷ []) ∷ []))) b e in
      let d = truth_of_two op.Or h x.0 x.1 in
      subst Keeps (some _ b x.2) (λ goal is hyps left. or_left _ _ (truth goal) (sym d.1 ∙ hyps.0) (λ p. left.0 (p, tt)) (λ q. left.1.0 (q, tt)))

  pub imp_r_keeps : (g : Formula) (b : Body) → imp_r g ≡ Some b → Keeps b
  imp_r_keeps g b e =
      let x = on_two_found op.Implies g (λ p q. Some (backward g (assumes p q ∷ []))) b e in
      let d = truth_of_two op.Implies g x.0 x.1 in
      subst Keeps (some _ b x.2) (λ goal is hyps left. subst Holds is (d.1 ∙ implies_right _ _ (λ p. left.0 (p, tt))))

  pub imp_l_keeps : (h : Formula) (b : Body) → imp_l h ≡ Some b → Keeps b
  imp_l_keeps h b e =
      let x = on_two_found op.Implies h (λ p q. Some (forward (h ∷ []) (proves p ∷ adds (q ∷ []) ∷ []))) b e in
      let d = truth_of_two op.Implies h x.0 x.1 in
      subst Keeps (some _ b x.2) (λ goal is hyps left. left.1.0 (implied _ _ (sym d.1 ∙ hyps.0) (left.0 tt), tt))

  pub mp_keeps : (h : Formula) (b : Body) → mp h ≡ Some b → Keeps b
  mp_keeps h b e =
      let x = on_two_found op.Implies h (λ p q. Some (forward (h ∷ p ∷ []) (adds (q ∷ []) ∷ []))) b e in
      let d = truth_of_two op.Implies h x.0 x.1 in
      subst Keeps (some _ b x.2) (λ goal is hyps left. left.0 (implied _ _ (sym d.1 ∙ hyps.0) hyps.1.0, tt))

  pub iff_r_keeps : (g : Formula) (b : Body) → iff_r g ≡ Some b → Keeps b
  iff_r_keeps g b e =
      let x = on_two_found op.Equivalent g (λ p q. Some (backward g (proves (implication p q) ∷ proves (implication q p) ∷ []))) b e in
      let d = truth_of_two op.Equivalent g x.0 x.1 in
      subst Keeps (some _ b x.2) (λ goal is hyps left.
      subst Holds is (d.1 ∙ equivalent_right (truth x.0.0) (truth x.0.1) (sym (truth-implication x.0.0 x.0.1) ∙ left.0 tt) (sym (truth-implication x.0.1 x.0.0) ∙ left.1.0 tt)))

  pub iff_l_keeps : (h : Formula) (b : Body) → iff_l h ≡ Some b → Keeps b
  iff_l_keeps h b e =
      let x = on_two_found op.Equivalent h (λ p q. Some (forward (h ∷ []) (adds (implication p q ∷ implication q p ∷ []) ∷ []))) b e in
      let d = truth_of_two op.Equivalent h x.0 x.1 in
      subst Keeps (some _ b x.2) (λ goal is hyps left.
      left.0 (truth-implication x.0.0 x.0.1 ∙ equivalent_first (truth x.0.0) (truth x.0.1) (sym d.1 ∙ hyps.0), (truth-implication x.0.1 x.0.0 ∙ equivalent_second (truth x.0.0) (truth x.0.1) (sym d.1 ∙ hyps.0), tt)))

  pub not_r_keeps : (g : Formula) (b : Body) → not_r g ≡ Some b → Keeps b
  not_r_keeps g b e =
      let x = on_one_found op.Not g (λ p. Some (backward g (assumes p bottom ∷ []))) b e in
      let d = truth_of_one g x.0 x.1 in
      subst Keeps (some _ b x.2) (λ goal is hyps left. subst Holds is (d ∙ not_right _ (λ p. absurdly (left.0 (p, tt)))))

  pub not_l_keeps : (h : Formula) (b : Body) → not_l h ≡ Some b → Keeps b
  not_l_keeps h b e =
      let x = on_one_found op.Not h (λ p. Some (forward (h ∷ []) (proves p ∷ []))) b e in
      let d = truth_of_one h x.0 x.1 in
      subst Keeps (some _ b x.2) (λ goal is hyps left. not_left _ (truth goal) (sym d ∙ hyps.0) (left.0 tt))

  pub contra_keeps : (g : Formula) (b : Body) → contra g ≡ Some b → Keeps b
  contra_keeps g b e = subst Keeps (some _ b e) (λ goal is hyps left. subst Holds is (by_contradiction _ (λ n. absurdly (left.0 (negation_holds g n, tt)))))

  -- a condition of well-definedness is one more that is left
  rest_left : (P : Antecedent → Type 0) (t : Bool) (l : Antecedent) (rest : List Antecedent) → AllByRecursion P (if t then rest else l ∷ rest) → AllByRecursion P rest
  rest_left P true l rest h = h
  rest_left P false l rest h = h.1

  chosen : (t : Bool) (c b : Body) → Keeps c → (if t then Some c else None) ≡ Some b → Keeps b
  chosen true c b k e = subst Keeps (some c b e) k
  chosen false c b k e = absurd (cc)

  pub cut_keeps : (p : Formula) (b : Body) → cut p ≡ Some b → Keeps b
  cut_keeps p b e = chosen (is_truth (type_of p)) (forward [] (after_condition (wd_of p) (proves p ∷ adds (p ∷ []) ∷ []))) b (λ goal is hyps left.
      let rest = rest_left (IsLeftTrue goal) (is_top (wd_of p)) (proves (wd_of p)) (proves p ∷ adds (p ∷ []) ∷ []) left in rest.1.0 (rest.0 tt, tt)) e

  pub cases_keeps : (p : Formula) (b : Body) → cases p ≡ Some b → Keeps b
  cases_keeps p b e = chosen (is_truth (type_of p)) (forward [] (after_condition (wd_of p) (adds (p ∷ []) ∷ adds (negation p ∷ []) ∷ []))) b (λ goal is hyps left.
      let rest = rest_left (IsLeftTrue goal) (is_top (wd_of p)) (proves (wd_of p)) (adds (p ∷ []) ∷ adds (negation p ∷ []) ∷ []) left in
      in_cases (truth p) (truth goal) (λ h. rest.0 (h, tt)) (λ n. rest.1.0 (negation_holds p n, tt))) e
