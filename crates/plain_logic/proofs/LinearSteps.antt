-- A linear step keeps truth in each reading.
use Rattle.std.proofs.Common.{◌≤◌, ◌≡◌, ◌∙◌, sym, ap, subst, refl, ℤ, pos, negsuc, ◌+ℤ◌, ◌-ℤ◌, ◌*ℤ◌, neg_ℤ, ◌≤ℤ◌, Bool, true, false, not, ◌&&◌, ◌||◌, List, [], ◌∷◌, map, Some, None, if◌then◌else◌, arith, Ok, Err}
use Rattle.std.specs.Prelude.{int_lt, int_le}
use Rattle.std.specs.Ordering.{int_eq}
use Rattle.std.specs.List.{AllByRecursion}
use Rattle.std.proofs.lemmas.Bool.Decides.{Decides-int_eq}
use Rattle.std.proofs.lemmas.Int.{ints}
use Rattle.std.proofs.Math.Nat.{mul-le-mul_left}
use borrow.Author.Differences.{up, down}
use Rattle.formula_core.specs.declared.Op.{Op}
use Rattle.formula_core.specs.declared.Op.TheVariants as op
use Rattle.formula_core.specs.declared.Ty.{Ty}
use Rattle.formula_core.specs.declared.Formula.{Formula}
use Rattle.formula_core.specs.declared.Formula.TheOpen.{Formula-F, Int as IntF, Free as FreeF, Bound as BoundF, Node as NodeF, Bind as BindF}
use Rattle.formula_core.specs.declared.Formula.TheVariants as formula
use Rattle.formula_core.specs.declared.Formula.TheViews.{out-Formula, roll-Formula, roll-out-Formula, rolls-Int, rolls-Free, rolls-Bound, rolls-Node, rolls-Bind}
use Rattle.formula_core.specs.Types.{is_integer}
use Rattle.formula_core.specs.Wellness.{type_of}
use Rattle.formula_core.proofs.Equations.{formula_para}
use Rattle.formula_core.proofs.Induction.{formula_induction}
use Rattle.formula_core.proofs.Lists.{map-beside}
use Rattle.formula_core.proofs.Weakening.{first_true, second_true}
use Rattle.rule_table.specs.declared.rule.Body.{Body}
use Rattle.rule_table.specs.Rows.{linear_step_of, both}
use Rattle.rule_table.specs.Linear.{plus, minus, Linear, OrTooWide, then_do, joined_by, times_form, is_constant, constant_form, atom, product_form, unary_form, binary_form, linear_step, linear, difference, plus_one_form, LinearShape, at_most, less, equation, falsum, other, shape_of_two, shape_of_none, shape_at, shape, may_be_goal, may_be_multiplied, goal_form, hypothesis_form, has_linear_form, are_multiplied, is_formula_among, added, linear_sum, is_positive_constant}
use Rattle.formula_readings.specs.Readings.{AtomValues, number_by, truth_in, comparison}
use Rattle.formula_readings.proofs.Truths.{number-Int, number-one, number-two, truth_in-two, truth-none}
use Rattle.plain_logic.proofs.Found.{some}
use Rattle.plain_logic.proofs.LogicKinds.{Keeps, Holds}
use Rattle.plain_logic.proofs.Sums.{ok, then_ok}
use Rattle.plain_logic.proofs.Linear.{IsWorth, constant_worth, atom_worth, sum_worth, difference_worth, times_worth, product_worth, constant_value}

alone : {X : Type 0} (xs : List X) → map (λ x. x) xs ≡ xs
alone [] = refl
alone (x ∷ xs) = ap (λ ys. x ∷ ys) (alone xs)

module _ (v : AtomValues) where
  abbrev number : Formula → ℤ
  number = number_by v.number

  abbrev truth : Formula → Bool
  truth = truth_in v

  -- a form of an expression is worth its number
  abbrev pub HasWorth : Formula → Type 0
  HasWorth f = (l : Linear) → linear f ≡ Ok l → IsWorth number (number f) l

  as_atom : (f : Formula) → linear f ≡ Ok (atom f) → HasWorth f
  as_atom f is l e = subst (IsWorth number (number f)) (ok (atom f) l (linear f) is e) (atom_worth number f)

  unary_worth : (o : Op) (e : Formula) (t : Ty) (l : Linear) → HasWorth e → unary_form o (formula.Node o (e ∷ []) t) (linear e) ≡ Ok l
      → IsWorth number (number (formula.Node o (e ∷ []) t)) l
  unary_worth op.Negate e t l p k =
      let a = then_ok (linear e) (joined_by minus (constant_form (pos 0))) l k in
      let w = difference_worth number (pos 0) (number e) (constant_form (pos 0)) a.0 l (constant_worth number (pos 0)) (p a.0 a.1) a.2 in
      let z : pos 0 -ℤ number e ≡ neg_ℤ (number e) = omega (arith, ints) in
      subst (λ n. IsWorth number n l) (z ∙ sym (number-one v.number op.Negate e t)) w
  unary_worth o e t l p k = subst (IsWorth number (number (formula.Node o (e ∷ []) t))) (ok (atom (formula.Node o (e ∷ []) t)) l (Ok (atom (formula.Node o (e ∷ []) t))) refl k) (atom_worth number (formula.Node o (e ∷ []) t))

  binary_worth : (o : Op) (e f : Formula) (t : Ty) (l : Linear) → HasWorth e → HasWorth f → binary_form o (formula.Node o (e ∷ f ∷ []) t) (linear e) (linear f) ≡ Ok l
      → IsWorth number (number (formula.Node o (e ∷ f ∷ []) t)) l
  binary_worth op.Plus e f t l p q k =
      let a = then_ok (linear e) (λ a. then_do (linear f) (joined_by plus a)) l k in
      let b = then_ok (linear f) (joined_by plus a.0) l a.2 in
      subst (λ n. IsWorth number n l) (sym (number-two v.number op.Plus e f t)) (sum_worth number (number e) (number f) a.0 b.0 l (p a.0 a.1) (q b.0 b.1) b.2)
  binary_worth op.Minus e f t l p q k =
      let a = then_ok (linear e) (λ a. then_do (linear f) (joined_by minus a)) l k in
      let b = then_ok (linear f) (joined_by minus a.0) l a.2 in
      subst (λ n. IsWorth number n l) (sym (number-two v.number op.Minus e f t)) (difference_worth number (number e) (number f) a.0 b.0 l (p a.0 a.1) (q b.0 b.1) b.2)
  binary_worth op.Times e f t l p q k =
      let g = formula.Node op.Times (e ∷ f ∷ []) t in
      let a = then_ok (linear e) (λ a. then_do (linear f) (product_form g a)) l k in
      let b = then_ok (linear f) (product_form g a.0) l a.2 in
      let is = number-two v.number op.Times e f t in
      subst (λ n. IsWorth number n l) (sym is) (product_worth number g (number e) (number f) a.0 b.0 l (p a.0 a.1) (q b.0 b.1) is b.2)
  binary_worth o e f t l p q k = subst (IsWorth number (number (formula.Node o (e ∷ f ∷ []) t))) (ok (atom (formula.Node o (e ∷ f ∷ []) t)) l (Ok (atom (formula.Node o (e ∷ f ∷ []) t))) refl k) (atom_worth number (formula.Node o (e ∷ f ∷ []) t))

  at_node : (o : Op) (parts : List Formula) (t : Ty) → AllByRecursion HasWorth parts → HasWorth (formula.Node o parts t)
  at_node o [] t each = as_atom (formula.Node o [] t) (formula_para linear_step (NodeF o [] t) (formula.Node o [] t) (rolls-Node o [] t))
  at_node o (e ∷ []) t each = λ l k. unary_worth o e t l each.0 (sym (formula_para linear_step (NodeF o (e ∷ []) t) (formula.Node o (e ∷ []) t) (rolls-Node o (e ∷ []) t)) ∙ k)
  at_node o (e ∷ f ∷ []) t each = λ l k. binary_worth o e f t l each.0 each.1.0 (sym (formula_para linear_step (NodeF o (e ∷ f ∷ []) t) (formula.Node o (e ∷ f ∷ []) t) (rolls-Node o (e ∷ f ∷ []) t)) ∙ k)
  at_node o (e ∷ f ∷ g ∷ parts) t each =
      let all : List Formula = e ∷ f ∷ g ∷ parts in
      as_atom (formula.Node o all t) (formula_para linear_step (NodeF o all t) (formula.Node o all t) (rolls-Node o all t)
      ∙ ap (λ ps. Ok (atom (formula.Node o ps t))) (map-beside linear (λ x. x) all ∙ alone all))

  pub linear_worth : (f : Formula) → HasWorth f
  linear_worth = formula_induction HasWorth
      (λ n l e. subst (λ m. IsWorth number m l) (sym (number-Int v.number n))
      (subst (IsWorth number n) (ok (constant_form n) l (linear (formula.Int n)) (formula_para linear_step (IntF n) (formula.Int n) (rolls-Int n)) e) (constant_worth number n)))
      (λ name t. as_atom (formula.Free name t) (formula_para linear_step (FreeF name t) (formula.Free name t) (rolls-Free name t)))
      (λ i t. as_atom (formula.Bound i t) (formula_para linear_step (BoundF i t) (formula.Bound i t) (rolls-Bound i t)))
      at_node
      (λ b types parts t each. as_atom (formula.Bind b types parts t) (formula_para linear_step (BindF b types parts t) (formula.Bind b types parts t) (rolls-Bind b types parts t)
      ∙ ap (λ ps. Ok (atom (formula.Bind b types ps t))) (map-beside linear (λ x. x) parts ∙ alone parts)))

  difference_is : (e f : Formula) (l : Linear) → difference e f ≡ Ok l → IsWorth number (number e -ℤ number f) l
  difference_is e f l k =
      let a = then_ok (linear e) (λ a. then_do (linear f) (joined_by minus a)) l k in
      let b = then_ok (linear f) (joined_by minus a.0) l a.2 in
      difference_worth number (number e) (number f) a.0 b.0 l (linear_worth e a.0 a.1) (linear_worth f b.0 b.1) b.2

  plus_one_is : (n : ℤ) (a : OrTooWide Linear) (l : Linear) → ((l : Linear) → a ≡ Ok l → IsWorth number n l) → plus_one_form a ≡ Ok l → IsWorth number (n +ℤ pos 1) l
  plus_one_is n a l p k =
      let x = then_ok a (λ a. joined_by plus a (constant_form (pos 1))) l k in
      sum_worth number n (pos 1) x.0 (constant_form (pos 1)) l (p x.0 x.1) (constant_worth number (pos 1)) x.2

  -- what a shape says of numbers
  abbrev Says : LinearShape → Bool → Type 0
  Says (at_most e f) b = b ≡ int_le (number e) (number f)
  Says (less e f) b = b ≡ int_lt (number e) (number f)
  Says (equation e f) b = b ≡ int_eq (number e) (number f)
  Says falsum b = b ≡ false
  Says other b = Unit

  says_two : (o : Op) (e f : Formula) (t : Ty) → Says (shape_of_two o e f) (truth (formula.Node o (e ∷ f ∷ []) t))
  says_two op.LessOrEqual e f t = truth_in-two v op.LessOrEqual e f t
  says_two op.Less e f t = truth_in-two v op.Less e f t
  says_two op.Equal e f t = go (is_integer (type_of e)) refl
    where
      go : (c : Bool) → is_integer (type_of e) ≡ c → Says (if c then equation e f else other) (truth (formula.Node op.Equal (e ∷ f ∷ []) t))
      go true h = truth_in-two v op.Equal e f t ∙ ap (λ c. if c || is_integer (type_of f) then int_eq (number e) (number f) else v.truth (formula.Node op.Equal (e ∷ f ∷ []) t)) h
      go false h = tt
  says_two _ e f t = tt

  says_none : (o : Op) (t : Ty) → Says (shape_of_none o) (truth (formula.Node o [] t))
  says_none op.Bottom t = truth-none (comparison v) op.Bottom t
  says_none _ t = tt

  says : (h : Formula) → Says (shape h) (truth h)
  says h = go (out-Formula h) refl
    where
      is : (o : Op) (parts : List Formula) (t : Ty) → out-Formula h ≡ NodeF o parts t → formula.Node o parts t ≡ h
      is o parts t k = sym (sym (roll-out-Formula h) ∙ ap roll-Formula k ∙ rolls-Node o parts t)

      go : (x : Formula-F Formula) → out-Formula h ≡ x → Says (shape_at x) (truth h)
      go (NodeF o [] t) k = subst (λ g. Says (shape_of_none o) (truth g)) (is o [] t k) (says_none o t)
      go (NodeF o (e ∷ f ∷ []) t) k = subst (λ g. Says (shape_of_two o e f) (truth g)) (is o (e ∷ f ∷ []) t k) (says_two o e f t)
      go _ k = tt

  -- a true hypothesis, multiplied, is worth at most 0
  at_most_zero : (k n : ℤ) → int_le (pos 0) k ≡ true → n ≤ℤ pos 0 → (k *ℤ n) ≤ℤ pos 0
  at_most_zero (pos k) n h m =
      let u : up n ≤ down n = omega (arith, ints, m) in
      omega (arith, ints, mul-le-mul_left k u)
  at_most_zero (negsuc k) n h m = absurd (cc)

  worth_of : (s : LinearShape) (b : Bool) → Says s b → b ≡ true → (k : ℤ) → may_be_multiplied s k ≡ true → (l : Linear) → hypothesis_form s ≡ Ok l
      → (n : ℤ) × (IsWorth number n l) × ((k *ℤ n) ≤ℤ pos 0)
  worth_of (at_most e f) b is h k m l e' =
      let t : int_le (number e) (number f) ≡ true = sym is ∙ h in
      (number e -ℤ number f, difference_is e f l e', at_most_zero k (number e -ℤ number f) m (omega (arith, ints, t)))
  worth_of (less e f) b is h k m l e' =
      let t : int_lt (number e) (number f) ≡ true = sym is ∙ h in
      (number e -ℤ number f +ℤ pos 1, plus_one_is (number e -ℤ number f) (difference e f) l (difference_is e f) e', at_most_zero k (number e -ℤ number f +ℤ pos 1) m (omega (arith, ints, t)))
  worth_of (equation e f) b is h k m l e' =
      let t : number e ≡ number f = (Decides-int_eq (number e) (number f)).0 (sym is ∙ h) in
      let z : number e -ℤ number f ≡ pos 0 = omega (arith, ints, t) in
      (number e -ℤ number f, difference_is e f l e', subst (λ n. (k *ℤ n) ≤ℤ pos 0) (sym z) (omega (arith, ints)))
  worth_of falsum b is h k m l e' = absurd (cc)
  worth_of other b is h k m l e' = absurd (cc)

  -- a goal that is false is worth at most 0
  goal_worth : (s : LinearShape) (b : Bool) → Says s b → b ≡ false → may_be_goal s ≡ true → (l : Linear) → goal_form s ≡ Ok l → (n : ℤ) × (IsWorth number n l) × (n ≤ℤ pos 0)
  goal_worth (at_most e f) b is h m l e' =
      let t : int_le (number e) (number f) ≡ false = sym is ∙ h in
      (number f -ℤ number e +ℤ pos 1, plus_one_is (number f -ℤ number e) (difference f e) l (difference_is f e) e', omega (arith, ints, t))
  goal_worth (less e f) b is h m l e' =
      let t : int_lt (number e) (number f) ≡ false = sym is ∙ h in
      (number f -ℤ number e, difference_is f e l e', omega (arith, ints, t))
  goal_worth falsum b is h m l e' =
      (pos 0, subst (IsWorth number (pos 0)) (ok (constant_form (pos 0)) l (Ok (constant_form (pos 0))) refl e') (constant_worth number (pos 0)), omega (arith, ints))
  goal_worth (equation e f) b is h m l e' = absurd (cc)
  goal_worth other b is h m l e' = absurd (cc)

  -- the multiplied hypotheses are added
  added_worth : (hyps : List Formula) (ks : List ℤ) (total : OrTooWide Linear) (l : Linear) → are_multiplied hyps ks ≡ true → AllByRecursion (λ h. truth h ≡ true) hyps
      → ((t : Linear) → total ≡ Ok t → (n : ℤ) × (IsWorth number n t) × (n ≤ℤ pos 0)) → added total hyps ks ≡ Ok l → (n : ℤ) × (IsWorth number n l) × (n ≤ℤ pos 0)
  added_worth [] [] total l m h p e = p l e
  added_worth [] (k ∷ ks) total l m h p e = absurd (cc)
  added_worth (g ∷ hyps) [] total l m h p e = absurd (cc)
  added_worth (g ∷ hyps) (k ∷ ks) total l m h p e =
      let rest : are_multiplied hyps ks ≡ true = second_true (may_be_multiplied (shape g) k && not (is_formula_among hyps g)) (are_multiplied hyps ks) m in
      let may : may_be_multiplied (shape g) k ≡ true = first_true (may_be_multiplied (shape g) k) (not (is_formula_among hyps g)) (first_true (may_be_multiplied (shape g) k && not (is_formula_among hyps g)) (are_multiplied hyps ks) m) in
      added_worth hyps ks (then_do total (λ t. then_do (hypothesis_form (shape g)) (λ a. then_do (times_form k a) (joined_by plus t)))) l rest h.1 (λ t d.
      let x = then_ok total (λ t. then_do (hypothesis_form (shape g)) (λ a. then_do (times_form k a) (joined_by plus t))) t d in
      let a = then_ok (hypothesis_form (shape g)) (λ a. then_do (times_form k a) (joined_by plus x.0)) t x.2 in
      let b = then_ok (times_form k a.0) (joined_by plus x.0) t a.2 in
      let before = p x.0 x.1 in
      let one = worth_of (shape g) (truth g) (says g) h.0 k may a.0 a.1 in
      let first : before.0 ≤ℤ pos 0 = before.2 in
      let second : (k *ℤ one.0) ≤ℤ pos 0 = one.2 in
      (before.0 +ℤ k *ℤ one.0, sum_worth number before.0 (k *ℤ one.0) x.0 b.0 t before.1 (times_worth number k one.0 a.0 b.0 one.1 b.1) b.2, omega (arith, ints, first, second))) e

  positive : (o : OrTooWide Linear) → is_positive_constant o ≡ true → ((l : Linear) → o ≡ Ok l → (n : ℤ) × (IsWorth number n l) × (n ≤ℤ pos 0)) → ⊥
  positive (Err e) h p = absurd (cc)
  positive (Ok l) h p =
      let x = p l refl in
      let c : l.constant ≡ x.0 = constant_value number x.0 l (first_true (is_constant l) (int_le (pos 1) l.constant) h) x.1 in
      let one : int_le (pos 1) l.constant ≡ true = second_true (is_constant l) (int_le (pos 1) l.constant) h in
      let low : x.0 ≤ℤ pos 0 = x.2 in
      omega (arith, ints, c, one, low)

  linear_true : (ks : List ℤ) (hyps : List Formula) (g : Formula) → has_linear_form g hyps ks ≡ true → is_positive_constant (linear_sum g hyps ks) ≡ true
      → AllByRecursion (λ h. truth h ≡ true) hyps → truth g ≡ true
  linear_true ks hyps g form positive_sum h = go (truth g) refl
    where
      go : (b : Bool) → truth g ≡ b → b ≡ true
      go true e = refl
      go false e = absurd (positive (linear_sum g hyps ks) positive_sum (λ l d.
          added_worth hyps ks (goal_form (shape g)) l (second_true (may_be_goal (shape g)) (are_multiplied hyps ks) form) h
          (λ t c. goal_worth (shape g) (truth g) (says g) e (first_true (may_be_goal (shape g)) (are_multiplied hyps ks) form) t c) d))

  if_step : (b : Bool) (p q : Body) → (if b then Some p else None) ≡ Some q → (b ≡ true) × (p ≡ q)
  if_step true p q e = (refl, some p q e)
  if_step false p q e = absurd (cc)

  pub linear_keeps : (ks : List ℤ) (hyps : List Formula) (g : Formula) (b : Body) → linear_step_of ks hyps g ≡ Some b → Keeps (comparison v) b
  linear_keeps ks hyps g b e =
      let x = if_step (has_linear_form g hyps ks && is_positive_constant (linear_sum g hyps ks)) (both g hyps []) b e in
      subst (Keeps (comparison v)) x.1 (λ goal is h left. subst (Holds (comparison v)) is
      (linear_true ks hyps g (first_true (has_linear_form g hyps ks) (is_positive_constant (linear_sum g hyps ks)) x.0) (second_true (has_linear_form g hyps ks) (is_positive_constant (linear_sum g hyps ks)) x.0) h))
