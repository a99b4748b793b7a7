-- The listed laws keep truth, or the number of an expression, and so they do at a place that readings see into.
use Rattle.std.proofs.Common.{◌≡◌, ◌∙◌, sym, ap, refl, ℤ, pos, ◌+ℤ◌, Bool, true, false, not, ◌&&◌, ◌||◌, [], ◌∷◌, Option, Some, None, if◌then◌else◌, arith}
use Rattle.std.specs.Prelude.{int_lt, int_le}
use Rattle.std.specs.Ordering.{int_eq}
use Rattle.std.specs.Option.{option_map_or}
use Rattle.std.proofs.lemmas.Bool.Decides.{Decides-int_eq}
use Rattle.std.proofs.lemmas.Int.{ints}
use Rattle.formula_core.specs.declared.Op.{Op}
use Rattle.formula_core.specs.declared.Op.TheVariants as op
use Rattle.formula_core.specs.declared.Ty.TheVariants as ty
use Rattle.formula_core.specs.declared.Formula.{Formula}
use Rattle.formula_core.specs.declared.Formula.TheVariants as formula
use Rattle.formula_core.specs.Types.{is_integer}
use Rattle.formula_core.specs.Wellness.{type_of}
use Rattle.well_defined.specs.Predicates.{conjunction, disjunction, at_most, less}
use Rattle.rule_table.specs.Shapes.{two_operands, negation, equivalence, equal, one, plus_one, on_one, on_two}
use Rattle.rule_table.specs.LogicLaws.{double_negation, negated_and, negated_or, negated_implies, negated_equivalent, equal_turned}
use Rattle.rule_table.specs.ArithmeticLaws.{negated_less, negated_at_most, equal_integers, less_is_at_most}
use Rattle.formula_readings.specs.Forms.{are_integers}
use Rattle.formula_readings.specs.Readings.{AtomValues, binary_truth, compared, truth_in, number_by, comparison}
use Rattle.formula_readings.proofs.Truths.{truth-two, truth_in-two, number-two, number-Int}
use Rattle.plain_logic.specs.Plain.{is_of_integers}
use Rattle.plain_logic.proofs.Found.{some, two_are, on_one_found, on_two_found}
use Rattle.plain_logic.proofs.LogicKinds.{truth-negation, truth_of_one, truth_of_two}

-- on truth values and numbers
not_not : (p : Bool) → not (not p) ≡ p
not_not true = refl
not_not false = refl

not_and : (p q : Bool) → not (p && q) ≡ (not p || not q)
not_and true q = refl
not_and false q = refl

not_or : (p q : Bool) → not (p || q) ≡ (not p && not q)
not_or true q = refl
not_or false q = refl

not_implies : (p q : Bool) → not (not p || q) ≡ (p && not q)
not_implies true q = refl
not_implies false q = refl

not_equivalent : (p q : Bool) → not (if p then q else not q) ≡ (if p then not q else not (not q))
not_equivalent true q = refl
not_equivalent false q = refl

not_less : (m n : ℤ) → not (int_lt m n) ≡ int_le n m
not_less m n = go (int_lt m n) refl
  where
    go : (b : Bool) → int_lt m n ≡ b → not b ≡ int_le n m
    go true e = let f : false ≡ int_le n m = omega (arith, ints, e) in f
    go false e = let t : true ≡ int_le n m = omega (arith, ints, e) in t

not_at_most : (m n : ℤ) → not (int_le m n) ≡ int_lt n m
not_at_most m n = go (int_le m n) refl
  where
    go : (b : Bool) → int_le m n ≡ b → not b ≡ int_lt n m
    go true e = let f : false ≡ int_lt n m = omega (arith, ints, e) in f
    go false e = let t : true ≡ int_lt n m = omega (arith, ints, e) in t

less_plus_one : (m n : ℤ) → int_lt m n ≡ int_le (m +ℤ pos 1) n
less_plus_one m n = go (int_lt m n) refl
  where
    go : (b : Bool) → int_lt m n ≡ b → b ≡ int_le (m +ℤ pos 1) n
    go true e = let t : true ≡ int_le (m +ℤ pos 1) n = omega (arith, ints, e) in t
    go false e = let f : false ≡ int_le (m +ℤ pos 1) n = omega (arith, ints, e) in f

equal_by_order : (m n : ℤ) → int_eq m n ≡ (int_le m n && int_le n m)
equal_by_order m n = go (int_le m n) (int_le n m) (int_eq m n) refl refl refl
  where
    go : (a b c : Bool) → int_le m n ≡ a → int_le n m ≡ b → int_eq m n ≡ c → c ≡ (a && b)
    go true true true p q e = refl
    go true true false p q e = let same : m ≡ n = omega (arith, ints, p, q) in let yes : int_eq m n ≡ true = (Decides-int_eq m n).1 same in cc
    go true false true p q e = let same : m ≡ n = (Decides-int_eq m n).0 e in let yes : true ≡ int_le n m = omega (arith, ints, same) in cc
    go true false false p q e = refl
    go false b true p q e = let same : m ≡ n = (Decides-int_eq m n).0 e in let yes : true ≡ int_le m n = omega (arith, ints, same) in cc
    go false b false p q e = refl

equal_turned_round : (m n : ℤ) → int_eq m n ≡ int_eq n m
equal_turned_round m n = equal_by_order m n ∙ turned (int_le m n) (int_le n m) ∙ sym (equal_by_order n m)
  where
    turned : (a b : Bool) → (a && b) ≡ (b && a)
    turned true true = refl
    turned true false = refl
    turned false true = refl
    turned false false = refl

either_turned : (a b : Bool) → (a || b) ≡ (b || a)
either_turned true true = refl
either_turned true false = refl
either_turned false true = refl
either_turned false false = refl

module _ (v : AtomValues) where
  abbrev truth : Formula → Bool
  truth = truth_in v

  abbrev number : Formula → ℤ
  number = number_by v.number

  abbrev pub KeepsTruth : Formula → Formula → Type 0
  KeepsTruth f g = truth f ≡ truth g

  -- ¬ of an operator on two
  under_not : (o : Op) (f g : Formula) (make : Formula → Formula → Option Formula) → on_one op.Not f (λ h. on_two o h make) ≡ Some g
      → (x : Formula × Formula) × (a : Bool) × (truth f ≡ not (binary_truth o a (truth x.0) (truth x.1))) × (make x.0 x.1 ≡ Some g)
  under_not o f g make e =
      let h = on_one_found op.Not f (λ h. on_two o h make) g e in
      let x = on_two_found o h.0 make g h.2 in
      let d = truth_of_two (comparison v) o h.0 x.0 x.1 in
      (x.0, d.0, truth_of_one (comparison v) f h.0 h.1 ∙ ap not d.1, x.2)

  negation_is : (p : Formula) → truth (negation p) ≡ not (truth p)
  negation_is = truth-negation (comparison v)

  pub double_negation_keeps : (f g : Formula) → double_negation f ≡ Some g → KeepsTruth f g
  double_negation_keeps f g e =
      let h = on_one_found op.Not f (λ h. on_one op.Not h Some) g e in
      let x = on_one_found op.Not h.0 Some g h.2 in
      truth_of_one (comparison v) f h.0 h.1 ∙ ap not (truth_of_one (comparison v) h.0 x.0 x.1) ∙ not_not (truth x.0) ∙ ap truth (some _ g x.2)

  pub negated_and_keeps : (f g : Formula) → negated_and f ≡ Some g → KeepsTruth f g
  negated_and_keeps f g e =
      let x = under_not op.And f g (λ p q. Some (disjunction (negation p) (negation q))) e in
      x.2 ∙ not_and (truth x.0.0) (truth x.0.1) ∙ (λ i. sym (negation_is x.0.0) i || sym (negation_is x.0.1) i)
      ∙ sym (truth-two (comparison v) op.Or (negation x.0.0) (negation x.0.1) ty.Truth) ∙ ap truth (some _ g x.3)

  pub negated_or_keeps : (f g : Formula) → negated_or f ≡ Some g → KeepsTruth f g
  negated_or_keeps f g e =
      let x = under_not op.Or f g (λ p q. Some (conjunction (negation p) (negation q))) e in
      x.2 ∙ not_or (truth x.0.0) (truth x.0.1) ∙ (λ i. sym (negation_is x.0.0) i && sym (negation_is x.0.1) i)
      ∙ sym (truth-two (comparison v) op.And (negation x.0.0) (negation x.0.1) ty.Truth) ∙ ap truth (some _ g x.3)

  pub negated_implies_keeps : (f g : Formula) → negated_implies f ≡ Some g → KeepsTruth f g
  negated_implies_keeps f g e =
      let x = under_not op.Implies f g (λ p q. Some (conjunction p (negation q))) e in
      x.2 ∙ not_implies (truth x.0.0) (truth x.0.1) ∙ ap (λ b. truth x.0.0 && b) (sym (negation_is x.0.1))
      ∙ sym (truth-two (comparison v) op.And x.0.0 (negation x.0.1) ty.Truth) ∙ ap truth (some _ g x.3)

  pub negated_equivalent_keeps : (f g : Formula) → negated_equivalent f ≡ Some g → KeepsTruth f g
  negated_equivalent_keeps f g e =
      let x = under_not op.Equivalent f g (λ p q. Some (equivalence p (negation q))) e in
      x.2 ∙ not_equivalent (truth x.0.0) (truth x.0.1) ∙ ap (λ b. if truth x.0.0 then b else not b) (sym (negation_is x.0.1))
      ∙ sym (truth-two (comparison v) op.Equivalent x.0.0 (negation x.0.1) ty.Truth) ∙ ap truth (some _ g x.3)

  -- a comparison of two
  compared_is : (o : Op) (f : Formula) (x : Formula × Formula) → two_operands o f ≡ Some x
      → (a : Bool) × (truth f ≡ binary_truth o (compared o (are_integers x.0 x.1) a (number x.0) (number x.1)) (truth x.0) (truth x.1))
  compared_is o f x e = let y = two_are o f x e in (v.truth (formula.Node o (x.0 ∷ x.1 ∷ []) y.0), ap truth y.1 ∙ truth_in-two v o x.0 x.1 y.0)

  at_most_is : (e f : Formula) → truth (at_most e f) ≡ int_le (number e) (number f)
  at_most_is e f = truth_in-two v op.LessOrEqual e f ty.Truth

  less_is : (e f : Formula) → truth (less e f) ≡ int_lt (number e) (number f)
  less_is e f = truth_in-two v op.Less e f ty.Truth

  plus_one_is : (e : Formula) → number (plus_one e) ≡ number e +ℤ pos 1
  plus_one_is e = number-two v.number op.Plus e one ty.Int ∙ ap (λ n. number e +ℤ n) (number-Int v.number (pos 1))

  pub negated_less_keeps : (f g : Formula) → negated_less f ≡ Some g → KeepsTruth f g
  negated_less_keeps f g e =
      let h = on_one_found op.Not f (λ h. on_two op.Less h (λ e f. Some (at_most f e))) g e in
      let x = on_two_found op.Less h.0 (λ e f. Some (at_most f e)) g h.2 in
      truth_of_one (comparison v) f h.0 h.1 ∙ ap not (compared_is op.Less h.0 x.0 x.1).1 ∙ not_less (number x.0.0) (number x.0.1)
      ∙ sym (at_most_is x.0.1 x.0.0) ∙ ap truth (some _ g x.2)

  pub negated_at_most_keeps : (f g : Formula) → negated_at_most f ≡ Some g → KeepsTruth f g
  negated_at_most_keeps f g e =
      let h = on_one_found op.Not f (λ h. on_two op.LessOrEqual h (λ e f. Some (less f e))) g e in
      let x = on_two_found op.LessOrEqual h.0 (λ e f. Some (less f e)) g h.2 in
      truth_of_one (comparison v) f h.0 h.1 ∙ ap not (compared_is op.LessOrEqual h.0 x.0 x.1).1 ∙ not_at_most (number x.0.0) (number x.0.1)
      ∙ sym (less_is x.0.1 x.0.0) ∙ ap truth (some _ g x.2)

  pub less_is_at_most_keeps : (f g : Formula) → less_is_at_most f ≡ Some g → KeepsTruth f g
  less_is_at_most_keeps f g e =
      let x = on_two_found op.Less f (λ e f. Some (at_most (plus_one e) f)) g e in
      (compared_is op.Less f x.0 x.1).1 ∙ less_plus_one (number x.0.0) (number x.0.1)
      ∙ ap (λ n. int_le n (number x.0.1)) (sym (plus_one_is x.0.0)) ∙ sym (at_most_is (plus_one x.0.0) x.0.1) ∙ ap truth (some _ g x.2)

  -- an equation of integers
  equation_is : (f : Formula) (x : Formula × Formula) → two_operands op.Equal f ≡ Some x → are_integers x.0 x.1 ≡ true → truth f ≡ int_eq (number x.0) (number x.1)
  equation_is f x e h = let c = compared_is op.Equal f x e in c.1 ∙ ap (λ b. if b then int_eq (number x.0) (number x.1) else c.0) h

  if_integer : (b : Bool) (p g : Formula) → (if b then Some p else None) ≡ Some g → (b ≡ true) × (p ≡ g)
  if_integer true p g e = (refl, some p g e)
  if_integer false p g e = absurd (cc)

  pub equal_integers_keeps : (f g : Formula) → equal_integers f ≡ Some g → KeepsTruth f g
  equal_integers_keeps f g e =
      let x = on_two_found op.Equal f (λ e f. if is_integer (type_of e) then Some (conjunction (at_most e f) (at_most f e)) else None) g e in
      let d = if_integer (is_integer (type_of x.0.0)) (conjunction (at_most x.0.0 x.0.1) (at_most x.0.1 x.0.0)) g x.2 in
      equation_is f x.0 x.1 (ap (λ b. b || is_integer (type_of x.0.1)) d.0) ∙ equal_by_order (number x.0.0) (number x.0.1)
      ∙ (λ i. sym (at_most_is x.0.0 x.0.1) i && sym (at_most_is x.0.1 x.0.0) i)
      ∙ sym (truth-two (comparison v) op.And (at_most x.0.0 x.0.1) (at_most x.0.1 x.0.0) ty.Truth) ∙ ap truth d.1

  of_integers : (f : Formula) (x : Formula × Formula) → two_operands op.Equal f ≡ Some x → is_of_integers f ≡ true → are_integers x.0 x.1 ≡ true
  of_integers f x e h = sym (ap (λ o. option_map_or (λ p. are_integers p.0 p.1) o false) e) ∙ h

  pub equal_turned_keeps : (f g : Formula) → is_of_integers f ≡ true → equal_turned f ≡ Some g → KeepsTruth f g
  equal_turned_keeps f g h e =
      let x = on_two_found op.Equal f (λ e f. Some (equal f e)) g e in
      let both = of_integers f x.0 x.1 h in
      let turned : are_integers x.0.1 x.0.0 ≡ true = either_turned (is_integer (type_of x.0.1)) (is_integer (type_of x.0.0)) ∙ both in
      equation_is f x.0 x.1 both ∙ equal_turned_round (number x.0.0) (number x.0.1)
      ∙ ap (λ b. if b then int_eq (number x.0.1) (number x.0.0) else v.truth (equal x.0.1 x.0.0)) (sym turned)
      ∙ sym (truth_in-two v op.Equal x.0.1 x.0.0 ty.Truth) ∙ ap truth (some _ g x.2)
