-- A universe is a reading: what plain rules keep in each reading, they keep in each universe.
use Rattle.std.proofs.Common.{Bool, List, None, Option, Some, [], ap, false, int_le, int_lt, map, neg_ℤ, not, refl, sym, true, ℕ, ℤ, ◌&&◌, ◌*ℤ◌, ◌++◌, ◌+ℤ◌, ◌-ℤ◌, ◌||◌, ◌∙◌, ◌∷◌, ◌≡◌, IfSome}
use Rattle.std.proofs.lemmas.Bool.Decides.{Decides-int_eq}
use Rattle.std.specs.List.{AllByRecursion}
use Rattle.std.specs.Option.{option_to_list}
use Rattle.std.specs.Ordering.{int_eq}
use Rattle.std.specs.Prelude.{if◌then◌else◌, unwrap_or}
use Rattle.formula_core.proofs.Equations.{formula_para}
use Rattle.formula_core.proofs.Induction.{formula_induction}
use Rattle.formula_core.proofs.Keeping.{all_more, back, front}
use Rattle.formula_core.proofs.Types.{same_type_exact}
use Rattle.formula_core.proofs.Weakening.{second_true}
use Rattle.formula_core.specs.Formulas.{joined}
use Rattle.formula_core.specs.Types.{is_integer, is_truth}
use Rattle.formula_core.specs.Wellness.{type_of}
use Rattle.formula_core.specs.declared.Formula.{Formula}
use Rattle.formula_core.specs.declared.Formula.TheOpen.{Bind as BindF, Bound as BoundF, Formula-F, Free as FreeF, Int as IntF, Node as NodeF}
use Rattle.formula_core.specs.declared.Formula.TheVariants.{Bind, Bound, Free, Int, Node}
use Rattle.formula_core.specs.declared.Formula.TheViews.{outs-Bind, outs-Bound, outs-Free, outs-Int, outs-Node, rolls-Bind, rolls-Bound, rolls-Free, rolls-Int, rolls-Node}
use Rattle.formula_core.specs.declared.Op.{Op}
use Rattle.formula_core.specs.declared.Op.TheVariants as op
use Rattle.formula_core.specs.declared.Ty.{Ty}
use Rattle.formula_core.specs.declared.Ty.TheVariants as ty
use Rattle.rule_table.specs.Rows.{IsInstance}
use Rattle.rule_table.specs.Rules.{IsAllowed, IsSound, antecedent_formulas, formulas_of, needed_formulas, terms_of}
use Rattle.rule_table.specs.Shapes.{bottom}
use Rattle.rule_table.specs.declared.kind.RuleKind.{RuleKind}
use Rattle.rule_table.specs.declared.rule.Antecedent.{Antecedent}
use Rattle.rule_table.specs.declared.rule.Body.{Body}
use Rattle.sequent_core.specs.Trees.{goal_or}
use Rattle.formula_readings.proofs.Truths.{compared-two, number-Int, number-one, number-two, truth-none, truth-one, truth_in-two}
use Rattle.formula_readings.specs.Forms.{are_integers}
use Rattle.formula_readings.specs.Readings.{AtomValues, binary_number, binary_truth, compared, comparison, comparison_at, nullary_truth, number_by, number_step, truth_by, truth_in, truth_step, unary_number, unary_truth}
use Rattle.meanings.specs.Denotations.{Assignment, denotation, holds}
use Rattle.meanings.specs.Operations.{equivalent, of_list, truth_value, whole_number}
use Rattle.meanings.specs.Universes.{Valuation, Universe}
use Rattle.meanings.specs.Values.{Denotation, boolean_sort, integer_sort, sort}
use Rattle.meanings.proofs.Bools.{both_ways}
use Rattle.meanings.proofs.Casts.{cast_known}
use Rattle.meanings.proofs.Denotations.{denotation-Int, sort-Int, sort-Truth, sort_of}
use Rattle.meanings.proofs.Equalities.{equal_truth, equal_types, equation_holds, equation_tells}
use Rattle.meanings.proofs.Fitting.{IsWellIn, row_of_well, well_parts}
use Rattle.meanings.proofs.Lists.{members_of_pairs}
use Rattle.meanings.proofs.Truths.{at_node}
use Rattle.meanings.proofs.Types.{integer_is, truth_is}
use Rattle.plain_logic.specs.Plain.{is_plain_kind}
use Rattle.plain_logic.proofs.LogicKinds.{Holds, IsLeftTrue, truth-bottom}
use Rattle.plain_rules.proofs.PlainRules.{plain_keeps}
use Rattle.true_rules.proofs.Rows.{IsLeft, Keeps, True, by_cases}

equivalent_is : (p q : Bool) → (if p then q else not q) ≡ equivalent p q
equivalent_is true true = refl
equivalent_is true false = refl
equivalent_is false true = refl
equivalent_is false false = refl

module _ {carrier : List ℕ → Type 0} (U : Universe carrier) (names : Valuation carrier) where
  abbrev M : Formula → Denotation carrier
  M f = denotation U names f []

  abbrev N : Formula → ℤ
  N f = whole_number U (M f)

  abbrev T : Formula → Bool
  T = holds U names

  abbrev Well : Formula → Type 0
  Well f = IsWellIn f []

  -- the reading: its atoms have the values that they denote
  abbrev values : AtomValues
  values = record { truth = T; number = N }

  abbrev R : Formula → Bool
  R = comparison values

  -- what an operator makes that gives an integer, and one that gives a truth value
  integer_node : (o : Op) (parts : List Formula) (t : Ty) → is_integer t ≡ true
      → N (Node o parts t) ≡ whole_number U (integer_sort, of_list U o integer_sort (map M parts))
  integer_node o parts t is =
      ap (whole_number U) (at_node U names o parts t integer_sort (ap sort (integer_is t is) ∙ sort-Int) [])

  truth_node : (o : Op) (parts : List Formula) (t : Ty) → is_truth t ≡ true
      → T (Node o parts t) ≡ truth_value U (boolean_sort, of_list U o boolean_sort (map M parts))
  truth_node o parts t is =
      ap (truth_value U) (at_node U names o parts t boolean_sort (ap sort (truth_is t is) ∙ sort-Truth) [])

  -- the number of each well expression in the reading is the one that it denotes
  abbrev HasNumber : Formula → Type 0
  HasNumber f = Well f → number_by N f ≡ N f

  one_number : (o : Op) (e : Formula) (t : Ty) → Well (Node o (e ∷ []) t) → number_by N e ≡ N e
      → unary_number o (N (Node o (e ∷ []) t)) (number_by N e) ≡ N (Node o (e ∷ []) t)
  one_number op.Negate e t well h =
      ap neg_ℤ h ∙ sym (integer_node op.Negate _ t (second_true _ _ (row_of_well op.Negate (e ∷ []) t [] well)))
  one_number o e t well h = refl

  two_numbers : (o : Op) (e f : Formula) (t : Ty) → Well (Node o (e ∷ f ∷ []) t)
      → number_by N e ≡ N e → number_by N f ≡ N f
      → binary_number o (N (Node o (e ∷ f ∷ []) t)) (number_by N e) (number_by N f) ≡ N (Node o (e ∷ f ∷ []) t)
  two_numbers op.Plus e f t well h k = (λ i. h i +ℤ k i)
      ∙ sym (integer_node op.Plus _ t (second_true _ _ (row_of_well op.Plus (e ∷ f ∷ []) t [] well)))
  two_numbers op.Minus e f t well h k = (λ i. h i -ℤ k i)
      ∙ sym (integer_node op.Minus _ t (second_true _ _ (row_of_well op.Minus (e ∷ f ∷ []) t [] well)))
  two_numbers op.Times e f t well h k = (λ i. h i *ℤ k i)
      ∙ sym (integer_node op.Times _ t (second_true _ _ (row_of_well op.Times (e ∷ f ∷ []) t [] well)))
  two_numbers o e f t well h k = refl

  node_number : (o : Op) (parts : List Formula) (t : Ty) → AllByRecursion HasNumber parts → HasNumber (Node o parts t)
  node_number o [] t each well = formula_para (number_step N) (NodeF o [] t) _ (rolls-Node o [] t)
  node_number o (e ∷ []) t each well =
      number-one N o e t ∙ one_number o e t well (each.0 (well_parts o (e ∷ []) t [] well).0)
  node_number o (e ∷ f ∷ []) t each well =
      let parts = well_parts o (e ∷ f ∷ []) t [] well in
      number-two N o e f t ∙ two_numbers o e f t well (each.0 parts.0) (each.1.0 parts.1.0)
  node_number o (e ∷ f ∷ g ∷ more) t each well =
      let parts : List Formula = e ∷ f ∷ g ∷ more in
      formula_para (number_step N) (NodeF o parts t) _ (rolls-Node o parts t)
      ∙ ap (λ ps. N (Node o ps t)) (members_of_pairs (number_by N) parts)

  number_is : (f : Formula) → HasNumber f
  number_is = formula_induction HasNumber
      (λ n well. number-Int N n ∙ sym (ap (whole_number U) (denotation-Int U names n [])))
      (λ name t well. formula_para (number_step N) (FreeF name t) _ (rolls-Free name t))
      (λ k t well. formula_para (number_step N) (BoundF k t) _ (rolls-Bound k t))
      node_number
      (λ b own parts t each well. formula_para (number_step N) (BindF b own parts t) _ (rolls-Bind b own parts t)
      ∙ ap (λ ps. N (Bind b own ps t)) (members_of_pairs (number_by N) parts))

  -- an equation of integers
  equal_numbers : (e f : Formula) (t : Ty) → Well (Node op.Equal (e ∷ f ∷ []) t) → is_integer (type_of e) ≡ true
      → int_eq (N e) (N f) ≡ T (Node op.Equal (e ∷ f ∷ []) t)
  equal_numbers e f t well integer =
      let is = equal_truth e f t [] well in let types = equal_types e f t [] well in
      let number : (g : Formula) → type_of g ≡ type_of e → (integer_sort, N g) ≡ M g = λ g same.
      cast_known U (M g) integer_sort
      (sort_of U names g [] ∙ ap sort (same ∙ integer_is (type_of e) integer) ∙ sort-Int) in
      let decides = Decides-int_eq (N e) (N f) in
      both_ways (int_eq (N e) (N f)) (T (Node op.Equal (e ∷ f ∷ []) t)) (λ h. equation_holds U names t is [] e f
      (sym (number e refl) ∙ (λ i. (integer_sort, decides.0 h i)) ∙ number f types))
      (λ h. decides.1 (ap (whole_number U) (equation_tells U names t is [] e f types h)))

  -- a comparison has the truth value that the numbers of its sides give
  compared_is : (o : Op) (e f : Formula) (t : Ty) → Well (Node o (e ∷ f ∷ []) t)
      → compared o (are_integers e f) (T (Node o (e ∷ f ∷ []) t)) (N e) (N f) ≡ T (Node o (e ∷ f ∷ []) t)
  compared_is op.Less e f t well =
      sym (truth_node op.Less _ t (second_true _ _ (row_of_well op.Less (e ∷ f ∷ []) t [] well)))
  compared_is op.LessOrEqual e f t well =
      sym (truth_node op.LessOrEqual _ t (second_true _ _ (row_of_well op.LessOrEqual (e ∷ f ∷ []) t [] well)))
  compared_is op.Equal e f t well = by_cases (is_integer (type_of e))
      (λ k. (λ i. if (k i || is_integer (type_of f)) then int_eq (N e) (N f) else T (Node op.Equal (e ∷ f ∷ []) t))
      ∙ equal_numbers e f t well k)
      (λ k. λ i. if (k i || (ap is_integer (equal_types e f t [] well) ∙ k) i) then int_eq (N e) (N f)
      else T (Node op.Equal (e ∷ f ∷ []) t))
  compared_is o e f t well = refl

  -- each well formula is true in the reading exactly where it is in the universe
  abbrev HasTruth : Formula → Type 0
  HasTruth f = Well f → truth_in values f ≡ T f

  no_truth : (o : Op) (t : Ty) → Well (Node o [] t) → nullary_truth o (T (Node o [] t)) ≡ T (Node o [] t)
  no_truth op.Top t well = sym (truth_node op.Top [] t (row_of_well op.Top [] t [] well))
  no_truth op.Bottom t well = sym (truth_node op.Bottom [] t (row_of_well op.Bottom [] t [] well))
  no_truth o t well = refl

  one_truth : (o : Op) (p : Formula) (t : Ty) → Well (Node o (p ∷ []) t)
      → unary_truth o (T (Node o (p ∷ []) t)) (T p) ≡ T (Node o (p ∷ []) t)
  one_truth op.Not p t well = sym (truth_node op.Not _ t (second_true _ _ (row_of_well op.Not (p ∷ []) t [] well)))
  one_truth o p t well = refl

  two_truths : (o : Op) (p q : Formula) (t : Ty) → Well (Node o (p ∷ q ∷ []) t)
      → binary_truth o (T (Node o (p ∷ q ∷ []) t)) (T p) (T q) ≡ T (Node o (p ∷ q ∷ []) t)
  two_truths op.And p q t well =
      sym (truth_node op.And _ t (second_true _ _ (row_of_well op.And (p ∷ q ∷ []) t [] well)))
  two_truths op.Or p q t well =
      sym (truth_node op.Or _ t (second_true _ _ (row_of_well op.Or (p ∷ q ∷ []) t [] well)))
  two_truths op.Implies p q t well =
      sym (truth_node op.Implies _ t (second_true _ _ (row_of_well op.Implies (p ∷ q ∷ []) t [] well)))
  two_truths op.Equivalent p q t well = equivalent_is (T p) (T q)
      ∙ sym (truth_node op.Equivalent _ t (second_true _ _ (row_of_well op.Equivalent (p ∷ q ∷ []) t [] well)))
  two_truths o p q t well = refl

  node_truth : (o : Op) (parts : List Formula) (t : Ty) → AllByRecursion HasTruth parts → HasTruth (Node o parts t)
  node_truth o [] t each well = truth-none R o t
      ∙ ap (nullary_truth o) (ap (comparison_at values (T (Node o [] t))) (outs-Node o [] t)) ∙ no_truth o t well
  node_truth o (p ∷ []) t each well = truth-one R o p t
      ∙ (λ i. unary_truth o (comparison_at values (T (Node o (p ∷ []) t)) (outs-Node o (p ∷ []) t i))
      (each.0 (well_parts o (p ∷ []) t [] well).0 i)) ∙ one_truth o p t well
  node_truth o (p ∷ q ∷ []) t each well =
      let parts = well_parts o (p ∷ q ∷ []) t [] well in
      truth_in-two values o p q t
      ∙ (λ i. binary_truth o (compared o (are_integers p q) (T (Node o (p ∷ q ∷ []) t)) (number_is p parts.0 i)
      (number_is q parts.1.0 i)) (each.0 parts.0 i) (each.1.0 parts.1.0 i))
      ∙ (λ i. binary_truth o (compared_is o p q t well i) (T p) (T q)) ∙ two_truths o p q t well
  node_truth o (p ∷ q ∷ r ∷ more) t each well =
      let parts : List Formula = p ∷ q ∷ r ∷ more in
      formula_para (truth_step R) (NodeF o parts t) _ (rolls-Node o parts t)
      ∙ ap (λ ps. R (Node o ps t)) (members_of_pairs (truth_in values) parts)
      ∙ ap (comparison_at values (T (Node o parts t))) (outs-Node o parts t)

  truth_same : (f : Formula) → HasTruth f
  truth_same = formula_induction HasTruth
      (λ n well. formula_para (truth_step R) (IntF n) _ (rolls-Int n)
      ∙ ap (comparison_at values (T (Int n))) (outs-Int n))
      (λ name t well. formula_para (truth_step R) (FreeF name t) _ (rolls-Free name t)
      ∙ ap (comparison_at values (T (Free name t))) (outs-Free name t))
      (λ k t well. formula_para (truth_step R) (BoundF k t) _ (rolls-Bound k t)
      ∙ ap (comparison_at values (T (Bound k t))) (outs-Bound k t))
      node_truth
      (λ b own parts t each well. formula_para (truth_step R) (BindF b own parts t) _ (rolls-Bind b own parts t)
      ∙ ap (λ ps. R (Bind b own ps t)) (members_of_pairs (truth_in values) parts)
      ∙ ap (comparison_at values (T (Bind b own parts t))) (outs-Bind b own parts t))

  -- to the reading, and back
  abbrev AreHeld : List Formula → Type 0
  AreHeld = AllByRecursion (Holds R)

  exchanged : (fs : List Formula) → AllByRecursion Well fs
      → (AllByRecursion (True U names) fs → AreHeld fs) × (AreHeld fs → AllByRecursion (True U names) fs)
  exchanged [] well = (λ h. h, λ h. h)
  exchanged (f ∷ fs) well =
      let same = truth_same f well.0 in let rest = exchanged fs well.1 in
      (λ h. (same ∙ h.0, rest.0 h.1), λ h. (sym same ∙ h.0, rest.1 h.1))

  -- where the goal is false: a formula that is false in the reading takes its place
  module _ (g : Formula) (failed : T g ≡ false) where
    goal_false : (o : Option Formula) → AllByRecursion Well (option_to_list o) → IfSome o (λ x. x ≡ g)
        → truth_in values (unwrap_or o bottom) ≡ false
    goal_false None well is = truth-bottom R
    goal_false (Some x) well is = truth_same x well.0 ∙ ap T is ∙ failed

    goal_left : (o : Option Formula) (other : Formula) → AllByRecursion Well (option_to_list o)
        → True U names (goal_or o g) → Holds R (unwrap_or o other)
    goal_left None other well h = let k : true ≡ false = sym h ∙ failed in absurd cc
    goal_left (Some x) other well h = truth_same x well.0 ∙ h

    each_left : (other : Formula) (ants : List Antecedent) → AllByRecursion Well (joined (map antecedent_formulas ants))
        → AllByRecursion (IsLeft U names g) ants → AllByRecursion (IsLeftTrue R other) ants
    each_left other [] well h = tt
    each_left other (a ∷ ants) well h =
        let others = joined (map antecedent_formulas ants) in let goal = option_to_list a.goal in
        let here = front Well (antecedent_formulas a) others well in (
          λ added. goal_left a.goal other (back Well a.hyps goal here)
              (h.0 ((exchanged a.hyps (front Well a.hyps goal here)).1 added)),
          each_left other ants (back Well (antecedent_formulas a) others well) h.1,
        )

  itself : (o : Option Formula) → IfSome o (λ x. x ≡ unwrap_or o bottom)
  itself None = tt
  itself (Some x) = refl

  -- a plain rule keeps truth
  pub plain_kept : (k : RuleKind) (b : Body) → IsInstance k b → IsSound k b → is_plain_kind k b.goal b.hyps ≡ true
      → Keeps U names b
  plain_kept k b instance sound plain g is hyps left = by_cases (T g) (λ h. h) (λ failed.
      let needed = needed_formulas b in let others = joined (map antecedent_formulas b.antecedents) in
      let other : Formula = unwrap_or b.goal bottom in
      let well = all_more IsAllowed Well (λ f a. a.well) (formulas_of k b) sound.formulas in
      let well_ones = front Well (needed ++ others) (terms_of k) well in
      let needed_well = front Well needed others well_ones in
      let held : truth_in values other ≡ true = plain_keeps values k b instance plain other (itself b.goal)
      ((exchanged b.hyps (back Well (option_to_list b.goal) b.hyps needed_well)).0 hyps)
      (each_left g failed other b.antecedents (back Well needed others well_ones) left) in
      let not_held = goal_false g failed b.goal (front Well (option_to_list b.goal) b.hyps needed_well) is in absurd cc)
