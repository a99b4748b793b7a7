-- Finite sets: each member has a number.
use Rattle.std.proofs.Common.{Bool, List, [], arith, false, negsuc, pos, refl, subst, suc, sym, true, zero, ℕ, ℤ, ◌&&◌, ◌<◌, ◌+ℤ◌, ◌-ℤ◌, ◌||◌, ◌∙◌, ◌∷◌, ◌≡◌}
use Rattle.std.proofs.lemmas.Bool.{ltb-true, ltb-false}
use Rattle.std.proofs.lemmas.Int.{ints}
use Rattle.std.specs.List.{list_any}
use Rattle.std.specs.Prelude.{if◌then◌else◌, int_le, nat_lt, IsTrue, ◌↔◌}
use lib.IntN.{+ℤ-neg_ℤ_cancel}
use Rattle.formula_core.proofs.Weakening.{both_true, first_true, second_true}
use Rattle.meanings.specs.Laws.{HasList}
use Rattle.meanings.specs.Operations.{has_at_most, implies, is_finite, is_numbered}
use Rattle.meanings.specs.Universes.{Universe, every, some}
use Rattle.meanings.specs.Values.{Sort, Value, integer_sort, pair_sort, power_sort}
use Rattle.meanings.proofs.Bools.{implied_to, implies_from, or_cases, or_left, or_right}
use Rattle.meanings.proofs.Quantifiers.{every_holds, every_tells, some_holds}

module _ {carrier : List ℕ → Type 0} (U : Universe carrier) (a : Sort) where
  abbrev Set : Type 0
  Set = Value carrier a → Bool

  -- a numbering of a set
  pub record Numbered (A : Set) : Type 0 where
    pub n : ℤ
    pub numbers : ℤ × Value carrier a → Bool
    pub natural : int_le (pos 0) n ≡ true
    pub each : (x : Value carrier a) → A x ≡ true → (i : ℤ) × (int_le (pos 1) i ≡ true) × (int_le i n ≡ true) × (numbers (i, x) ≡ true)
    pub one : (i : ℤ) (x y : Value carrier a) → numbers (i, x) ≡ true → numbers (i, y) ≡ true → x ≡ y

  place : ℤ → (ℤ × Value carrier a → Bool) → Value carrier a → ℤ → Bool
  place n numbers x i = int_le (pos 1) i && int_le i n && numbers (i, x)

  pub numbered_holds : (A : Set) → Numbered A → is_finite U a A ≡ true
  numbered_holds A w =
      some_holds U integer_sort (has_at_most U a A) w.n (both_true (int_le (pos 0) w.n) _ w.natural (some_holds U (power_sort (pair_sort integer_sort a)) (is_numbered U a A w.n) w.numbers (both_true _ _
      (every_holds U a (λ x. implies (A x) (some U integer_sort (λ i. int_le (pos 1) i && int_le i w.n && w.numbers (i, x)))) (λ x.
      implies_from (A x) _ (λ h. let e = w.each x h in some_holds U integer_sort (λ i. int_le (pos 1) i && int_le i w.n && w.numbers (i, x)) e.0 (both_true _ _ (both_true _ _ e.1 e.2) e.3))))
      (every_holds U integer_sort (λ i. every U a (λ y. every U a (λ z. implies (w.numbers (i, y) && w.numbers (i, z)) (U.same a y z)))) (λ i.
      every_holds U a (λ y. every U a (λ z. implies (w.numbers (i, y) && w.numbers (i, z)) (U.same a y z))) (λ y.
      every_holds U a (λ z. implies (w.numbers (i, y) && w.numbers (i, z)) (U.same a y z)) (λ z.
      implies_from (w.numbers (i, y) && w.numbers (i, z)) (U.same a y z) (λ h. (U.same_exact a y z).1 (w.one i y z (first_true _ _ h) (second_true (w.numbers (i, y)) _ h))))))))))

  pub numbered_tells : (A : Set) → is_finite U a A ≡ true → Numbered A
  numbered_tells A h =
      let n : ℤ = U.choose integer_sort (has_at_most U a A) in
      let numbers : ℤ × Value carrier a → Bool = U.choose (power_sort (pair_sort integer_sort a)) (is_numbered U a A n) in
      let w : is_numbered U a A n numbers ≡ true = second_true (int_le (pos 0) n) _ h in
      record {
        n = n;
        numbers = numbers;
        natural = first_true (int_le (pos 0) n) _ h;
        each = λ x m.
            let found = implied_to (A x) _ (every_tells U a (λ x. implies (A x) (some U integer_sort (λ i. int_le (pos 1) i && int_le i n && numbers (i, x)))) (first_true _ _ w) x) m in
            let i : ℤ = U.choose integer_sort (λ i. int_le (pos 1) i && int_le i n && numbers (i, x)) in
            let front = first_true (int_le (pos 1) i && int_le i n) _ found in
            (i, first_true _ _ front, second_true (int_le (pos 1) i) _ front, second_true (int_le (pos 1) i && int_le i n) _ found);
        one = λ i x y p q.
            (U.same_exact a x y).0 (implied_to (numbers (i, x) && numbers (i, y)) _ (every_tells U a (λ z. implies (numbers (i, x) && numbers (i, z)) (U.same a x z))
            (every_tells U a (λ y. every U a (λ z. implies (numbers (i, y) && numbers (i, z)) (U.same a y z)))
            (every_tells U integer_sort (λ i. every U a (λ y. every U a (λ z. implies (numbers (i, y) && numbers (i, z)) (U.same a y z)))) (second_true (every U a (λ x. implies (A x) (some U integer_sort (λ i. int_le (pos 1) i && int_le i n && numbers (i, x))))) _ w) i) x) y)
            (both_true _ _ p q));
      }

  pub part_numbered : (A B : Set) → ((v : Value carrier a) → A v ≡ true → B v ≡ true) → Numbered B → Numbered A
  part_numbered A B within w = record { n = w.n; numbers = w.numbers; natural = w.natural; each = λ x h. w.each x (within x h); one = w.one }

  pub none_numbered : (A : Set) → ((v : Value carrier a) → A v ≡ false) → Numbered A
  none_numbered A none = record { n = pos 0; numbers = λ p. false; natural = refl; each = λ x h. (let k : true ≡ false = sym h ∙ none x in absurd cc); one = λ i x y p q. absurd cc }

  one_numbered : (x : Value carrier a) → Numbered (λ v. U.same a v x)
  one_numbered x = record {
    n = pos 1;
    numbers = λ p. U.same a p.1 x;
    natural = refl;
    each = λ v h. (pos 1, refl, refl, h);
    one = λ i y z p q. (U.same_exact a y x).0 p ∙ sym ((U.same_exact a z x).0 q);
  }

  above : (n i m : ℤ) → int_le (pos 0) m ≡ true → int_le i n ≡ true → int_le i (n +ℤ m) ≡ true
  above n i m h k = grind (arith, ints, h, k)

  moved_up : (n i m : ℤ) → int_le i m ≡ true → int_le (i +ℤ n) (n +ℤ m) ≡ true
  moved_up n i m h = grind (arith, ints, h)

  moved_from : (n i : ℤ) → int_le (pos 0) n ≡ true → int_le (pos 1) i ≡ true → int_le (pos 1) (i +ℤ n) ≡ true
  moved_from n i h k = grind (arith, ints, h, k)

  past : (n i : ℤ) → int_le (pos 1) i ≡ true → int_le (i +ℤ n) n ≡ false
  past n i h = grind (arith, ints, h)

  sum_natural : (n m : ℤ) → int_le (pos 0) n ≡ true → int_le (pos 0) m ≡ true → int_le (pos 0) (n +ℤ m) ≡ true
  sum_natural n m h k = grind (arith, ints, h, k)

  pub union_numbered : (A B : Set) → Numbered A → Numbered B → Numbered (λ v. A v || B v)
  union_numbered A B u w = record {
    n = u.n +ℤ w.n;
    numbers = λ p. if int_le p.0 u.n then u.numbers p else w.numbers (p.0 -ℤ u.n, p.1);
    natural = sum_natural u.n w.n u.natural w.natural;
    each = λ x h. or_cases (A x) (B x) ((i : ℤ) × (int_le (pos 1) i ≡ true) × (int_le i (u.n +ℤ w.n) ≡ true) × ((if int_le i u.n then u.numbers (i, x) else w.numbers (i -ℤ u.n, x)) ≡ true)) h
        (λ in_a. let e = u.each x in_a in (e.0, e.1, above u.n e.0 w.n w.natural e.2, (λ j. if e.2 j then u.numbers (e.0, x) else w.numbers (e.0 -ℤ u.n, x)) ∙ e.3))
        (λ in_b. let e = w.each x in_b in (
          e.0 +ℤ u.n,
          moved_from u.n e.0 u.natural e.1,
          moved_up u.n e.0 w.n e.2,
          (λ j. if past u.n e.0 e.1 j then u.numbers (e.0 +ℤ u.n, x) else w.numbers ((e.0 +ℤ u.n) -ℤ u.n, x)) ∙ (λ j. w.numbers (+ℤ-neg_ℤ_cancel e.0 u.n j, x)) ∙ e.3,
        ));
    one = λ i x y p q. single i x y (int_le i u.n) p q;
  }
    where
      single : (i : ℤ) (x y : Value carrier a) (c : Bool) → (if c then u.numbers (i, x) else w.numbers (i -ℤ u.n, x)) ≡ true → (if c then u.numbers (i, y) else w.numbers (i -ℤ u.n, y)) ≡ true → x ≡ y
      single i x y true p q = u.one i x y p q
      single i x y false p q = w.one (i -ℤ u.n) x y p q

  -- the values of the members of a list
  pub list_numbered : {X : Type 0} → (value : X → Value carrier a) (xs : List X) → Numbered (λ v. list_any (λ x. U.same a v (value x)) xs)
  list_numbered value [] = none_numbered (λ v. false) (λ v. refl)
  list_numbered value (x ∷ xs) =
      union_numbered (λ v. U.same a v (value x)) (λ v. list_any (λ x. U.same a v (value x)) xs) (one_numbered (value x)) (list_numbered value xs)

  -- the value of each number, the greatest number first
  values : (ℤ × Value carrier a → Bool) → ℕ → List (Value carrier a)
  values numbers zero = []
  values numbers (suc k) = U.choose a (λ x. numbers (pos (suc k), x)) ∷ values numbers k

  in_values : (A : Set) (w : Numbered A) (k j : ℕ) (x : Value carrier a) → j < k → w.numbers (pos (suc j), x) ≡ true → list_any (U.same a x) (values w.numbers k) ≡ true
  unfolding values
  in_values A w zero j x lt h = absurd (omega (arith, lt))
  in_values A w (suc k) j x lt h = go (nat_lt j k) refl (in_values A w k j x)
    where
      chosen : Value carrier a
      chosen = U.choose a (λ y. w.numbers (pos (suc k), y))

      go : (b : Bool) → nat_lt j k ≡ b → (j < k → w.numbers (pos (suc j), x) ≡ true → list_any (U.same a x) (values w.numbers k) ≡ true)
          → (U.same a x chosen || list_any (U.same a x) (values w.numbers k)) ≡ true
      go true e later = or_right (U.same a x chosen) _ (later (ltb-true j k e) h)
      go false e later =
          let least = ltb-false j k e in
          let last : j ≡ k = omega (arith, lt, least) in
          let now : w.numbers (pos (suc k), x) ≡ true = subst (λ j. w.numbers (pos (suc j), x) ≡ true) last h in
          or_left (U.same a x chosen) _ ((U.same_exact a x chosen).1 (w.one (pos (suc k)) x chosen now (U.chooses a (λ y. w.numbers (pos (suc k), y)) x now)))

  numbered_listed : (A : Set) → Numbered A → HasList U a A
  numbered_listed A w = go w.n refl
    where
      go : (n : ℤ) → w.n ≡ n → HasList U a A
      go (negsuc m) e = absurd (let n = subst (λ n. int_le (pos 0) n ≡ true) e w.natural in grind (arith, ints, n))
      go (pos m) e = (values w.numbers m, λ x h. let i = w.each x h in found x i.0 i.1 (subst (λ n. int_le i.0 n ≡ true) e i.2) i.3)
        where
          found : (x : Value carrier a) (i : ℤ) → int_le (pos 1) i ≡ true → int_le i (pos m) ≡ true → w.numbers (i, x) ≡ true → list_any (U.same a x) (values w.numbers m) ≡ true
          found x (pos zero) low high h = absurd (grind (arith, ints, low))
          found x (negsuc j) low high h = absurd (grind (arith, ints, low))
          found x (pos (suc j)) low high h = in_values A w m j x (grind (arith, ints, high)) h

  -- a set is finite exactly where some list has each member
  pub finite_is_listed : (A : Set) → IsTrue (is_finite U a A) ↔ HasList U a A
  finite_is_listed A = (
    λ h. numbered_listed A (numbered_tells A h),
    λ l. numbered_holds A (part_numbered A (λ v. list_any (U.same a v) l.0) l.1 (list_numbered (λ x. x) l.0)),
  )
