-- How many members a set has: numberings by 1 to n, one member more, one less, and the least n.
use Rattle.std.proofs.Common.{◌≡◌, ◌∙◌, sym, ap, subst, refl, ℕ, zero, suc, List, ℤ, pos, ◌+ℤ◌, ◌-ℤ◌, int_le, Bool, true, false, not, ◌&&◌, ◌||◌}
use Rattle.std.specs.Prelude.{if◌then◌else◌}
use Rattle.formula_core.proofs.Weakening.{first_true, second_true, both_true}
use Rattle.meanings.specs.Operations.{implies, is_numbered, has_at_most, is_finite, least_number}
use Rattle.meanings.specs.Universes.{Universe, some, every}
use Rattle.meanings.specs.Values.{Sort, integer_sort, power_sort, pair_sort, Value}
use Rattle.meanings.proofs.Bools.{implied_to, implies_from, or_cases, or_left, or_right, or_none}
use Rattle.meanings.proofs.Quantifiers.{some_holds, every_holds, every_tells}
use Rattle.true_facts.proofs.Integers.{le_self, le_both, le_next, next_le, is_last, past, one_up, natural_up, natural_down, one_down, least_one, up_from, not_last, count_up}
use Rattle.true_facts.proofs.Least.{IsLeast, least_exists, least_is}

pub not_true : (b : Bool) → (b ≡ true → ⊥) → b ≡ false
not_true true h = absurd (h refl)
not_true false h = refl

module _ {carrier : List ℕ → Type 0} (U : Universe carrier) (a : Sort) where
  abbrev Set : Type 0
  Set = Value carrier a → Bool

  abbrev Place : ℤ → (ℤ × Value carrier a → Bool) → Value carrier a → ℤ → Bool
  Place n numbers x i = int_le (pos 1) i && int_le i n && numbers (i, x)

  -- the numbers 1 to n lead to each member of a set, and no number to two values
  pub record Counted (A : Set) (n : ℤ) : Type 0 where
    pub numbers : ℤ × Value carrier a → Bool
    pub natural : int_le (pos 0) n ≡ true
    pub each : (x : Value carrier a) → A x ≡ true → (i : ℤ) × (int_le (pos 1) i ≡ true) × (int_le i n ≡ true) × (numbers (i, x) ≡ true)
    pub one : (i : ℤ) (x y : Value carrier a) → numbers (i, x) ≡ true → numbers (i, y) ≡ true → x ≡ y

  pub counted_holds : (A : Set) (n : ℤ) → Counted A n → has_at_most U a A n ≡ true
  counted_holds A n w =
      both_true (int_le (pos 0) n) _ w.natural (some_holds U (power_sort (pair_sort integer_sort a)) (is_numbered U a A n) w.numbers (both_true _ _
      (every_holds U a (λ x. implies (A x) (some U integer_sort (Place n w.numbers x))) (λ x.
      implies_from (A x) _ (λ h. let e = w.each x h in some_holds U integer_sort (Place n w.numbers x) e.0 (both_true _ _ (both_true _ _ e.1 e.2) e.3))))
      (every_holds U integer_sort (λ i. every U a (λ y. every U a (λ z. implies (w.numbers (i, y) && w.numbers (i, z)) (U.same a y z)))) (λ i.
      every_holds U a (λ y. every U a (λ z. implies (w.numbers (i, y) && w.numbers (i, z)) (U.same a y z))) (λ y.
      every_holds U a (λ z. implies (w.numbers (i, y) && w.numbers (i, z)) (U.same a y z)) (λ z.
      implies_from (w.numbers (i, y) && w.numbers (i, z)) (U.same a y z) (λ h. (U.same_exact a y z).1 (w.one i y z (first_true _ _ h) (second_true (w.numbers (i, y)) _ h)))))))))

  pub counted_tells : (A : Set) (n : ℤ) → has_at_most U a A n ≡ true → Counted A n
  counted_tells A n h =
      let numbers : ℤ × Value carrier a → Bool = U.choose (power_sort (pair_sort integer_sort a)) (is_numbered U a A n) in
      let w : is_numbered U a A n numbers ≡ true = second_true (int_le (pos 0) n) _ h in
      record {
        numbers = numbers;
        natural = first_true (int_le (pos 0) n) _ h;
        each = λ x m.
            let found = implied_to (A x) _ (every_tells U a (λ x. implies (A x) (some U integer_sort (Place n numbers x))) (first_true _ _ w) x) m in
            let i : ℤ = U.choose integer_sort (Place n numbers x) in
            let front = first_true (int_le (pos 1) i && int_le i n) _ found in
            (i, first_true _ _ front, second_true (int_le (pos 1) i) _ front, second_true (int_le (pos 1) i && int_le i n) _ found);
        one = λ i x y p q.
            (U.same_exact a x y).0 (implied_to (numbers (i, x) && numbers (i, y)) _ (every_tells U a (λ z. implies (numbers (i, x) && numbers (i, z)) (U.same a x z))
            (every_tells U a (λ y. every U a (λ z. implies (numbers (i, y) && numbers (i, z)) (U.same a y z)))
            (every_tells U integer_sort (λ i. every U a (λ y. every U a (λ z. implies (numbers (i, y) && numbers (i, z)) (U.same a y z)))) (second_true (every U a (λ x. implies (A x) (some U integer_sort (Place n numbers x)))) _ w) i) x) y)
            (both_true _ _ p q));
      }

  pub counted_is_finite : (A : Set) (n : ℤ) → Counted A n → is_finite U a A ≡ true
  counted_is_finite A n w = some_holds U integer_sort (has_at_most U a A) n (counted_holds A n w)

  pub finite_is_counted : (A : Set) → is_finite U a A ≡ true → (n : ℤ) × Counted A n
  finite_is_counted A h = let n : ℤ = U.choose integer_sort (has_at_most U a A) in (n, counted_tells A n h)

  pub part_counted : (A B : Set) (n : ℤ) → ((v : Value carrier a) → A v ≡ true → B v ≡ true) → Counted B n → Counted A n
  part_counted A B n within w = record { numbers = w.numbers; natural = w.natural; each = λ x h. w.each x (within x h); one = w.one }

  -- the set of one value
  abbrev pub Only : Value carrier a → Set
  Only x y = U.same a y x || false

  pub only_tells : (x y : Value carrier a) → Only x y ≡ true → y ≡ x
  only_tells x y h = (U.same_exact a y x).0 (sym (or_none (U.same a y x)) ∙ h)

  pub only_self : (x : Value carrier a) → Only x x ≡ true
  only_self x = or_none (U.same a x x) ∙ (U.same_exact a x x).1 refl

  abbrev pub With : Set → Value carrier a → Set
  With A x y = A y || Only x y

  abbrev pub Without : Set → Value carrier a → Set
  Without A x y = A y && not (Only x y)

  pub apart : (A : Set) (x y : Value carrier a) → A y ≡ true → (y ≡ x → ⊥) → Without A x y ≡ true
  apart A x y h d = both_true (A y) _ h (ap not (not_true (Only x y) (λ e. d (only_tells x y e))))

  pub not_apart : (A : Set) (x y : Value carrier a) → Without A x y ≡ true → y ≡ x → ⊥
  not_apart A x y h e =
      let here : Only x y ≡ true = subst (λ z. Only x z ≡ true) (sym e) (only_self x) in
      let there : not (Only x y) ≡ true = second_true (A y) _ h in
      let m : false ≡ true = sym (ap not here) ∙ there in absurd cc

  -- one member more has the next number
  pub more_counted : (A : Set) (n : ℤ) (x : Value carrier a) → Counted A n → Counted (With A x) (n +ℤ pos 1)
  more_counted A n x w = record {
    numbers = λ q. if U.same integer_sort q.0 (n +ℤ pos 1) then Only x q.1 else w.numbers q;
    natural = natural_up n w.natural;
    each = λ y h. or_cases (A y) (Only x y) ((i : ℤ) × (int_le (pos 1) i ≡ true) × (int_le i (n +ℤ pos 1) ≡ true) × ((if U.same integer_sort i (n +ℤ pos 1) then Only x y else w.numbers (i, y)) ≡ true)) h
        (λ m. let e = w.each y m in (
          e.0,
          e.1,
          le_next e.0 n e.2,
          (λ j. if not_true (U.same integer_sort e.0 (n +ℤ pos 1)) (λ s. past e.0 n e.2 ((U.same_exact integer_sort e.0 (n +ℤ pos 1)).0 s)) j then Only x y else w.numbers (e.0, y)) ∙ e.3,
        ))
        (λ m. (
          n +ℤ pos 1,
          one_up n w.natural,
          le_self (n +ℤ pos 1),
          (λ j. if (U.same_exact integer_sort (n +ℤ pos 1) (n +ℤ pos 1)).1 refl j then Only x y else w.numbers (n +ℤ pos 1, y)) ∙ m,
        ));
    one = λ i y z p q. single i y z (U.same integer_sort i (n +ℤ pos 1)) p q;
  }
    where
      single : (i : ℤ) (y z : Value carrier a) (c : Bool) → (if c then Only x y else w.numbers (i, y)) ≡ true → (if c then Only x z else w.numbers (i, z)) ≡ true → y ≡ z
      single i y z true p q = only_tells x y p ∙ sym (only_tells x z q)
      single i y z false p q = w.one i y z p q

  -- without a member, the one with the last number gets that member's number
  pub less_counted : (A : Set) (n : ℤ) (x : Value carrier a) → A x ≡ true → Counted A n → Counted (Without A x) (n -ℤ pos 1)
  less_counted A n x m w = record {
    numbers = λ q. if U.same integer_sort q.0 k then w.numbers (n, q.1) else w.numbers q;
    natural = natural_down k n place.1 place.2;
    each = λ y h. number y h (w.each y (first_true (A y) _ h));
    one = λ i y z p q. single i y z (U.same integer_sort i k) p q;
  }
    where
      place : (i : ℤ) × (int_le (pos 1) i ≡ true) × (int_le i n ≡ true) × (w.numbers (i, x) ≡ true)
      place = w.each x m

      k : ℤ
      k = place.0

      Numbered : Value carrier a → Type 0
      Numbered y = (i : ℤ) × (int_le (pos 1) i ≡ true) × (int_le i (n -ℤ pos 1) ≡ true) × ((if U.same integer_sort i k then w.numbers (n, y) else w.numbers (i, y)) ≡ true)

      single : (i : ℤ) (y z : Value carrier a) (c : Bool) → (if c then w.numbers (n, y) else w.numbers (i, y)) ≡ true → (if c then w.numbers (n, z) else w.numbers (i, z)) ≡ true → y ≡ z
      single i y z true p q = w.one n y z p q
      single i y z false p q = w.one i y z p q

      other : (y : Value carrier a) (i : ℤ) → Without A x y ≡ true → w.numbers (i, y) ≡ true → i ≡ k → ⊥
      other y i h l e = not_apart A x y h (w.one k y x (subst (λ j. w.numbers (j, y) ≡ true) e l) place.3)

      taken : (y : Value carrier a) (i : ℤ) → Without A x y ≡ true → w.numbers (i, y) ≡ true → i ≡ n → (c : Bool) → int_le k (n -ℤ pos 1) ≡ c → Numbered y
      taken y i h l e true f =
          (k, place.1, f, (λ j. if (U.same_exact integer_sort k k).1 refl j then w.numbers (n, y) else w.numbers (k, y)) ∙ subst (λ j. w.numbers (j, y) ≡ true) e l)
      taken y i h l e false f = absurd (other y i h l (e ∙ sym (is_last k n place.2 f)))

      number : (y : Value carrier a) → Without A x y ≡ true → (i : ℤ) × (int_le (pos 1) i ≡ true) × (int_le i n ≡ true) × (w.numbers (i, y) ≡ true) → Numbered y
      number y h e = go (int_le e.0 (n -ℤ pos 1)) refl
        where
          go : (c : Bool) → int_le e.0 (n -ℤ pos 1) ≡ c → Numbered y
          go true f =
              (e.0, e.1, f, (λ j. if not_true (U.same integer_sort e.0 k) (λ s. other y e.0 h e.3 ((U.same_exact integer_sort e.0 k).0 s)) j then w.numbers (n, y) else w.numbers (e.0, y)) ∙ e.3)
          go false f = taken y e.0 h e.3 (is_last e.0 n e.2 f) (int_le k (n -ℤ pos 1)) refl

  -- the least number that counts a set
  abbrev pub IsSize : Set → ℤ → Type 0
  IsSize A n = IsLeast (has_at_most U a A) n

  abbrev pub size : Set → ℤ
  size A = least_number U (has_at_most U a A)

  pub size_is : (A : Set) → is_finite U a A ≡ true → IsSize A (size A)
  size_is A h =
      let found = least_exists (has_at_most U a A) (pos 0) (λ n m. first_true (int_le (pos 0) n) _ m) (U.choose integer_sort (has_at_most U a A)) h in
      least_is U (has_at_most U a A) found.0 found.1

  pub one_size : (A : Set) (n m : ℤ) → IsSize A n → IsSize A m → n ≡ m
  one_size A n m p q = le_both n m (p.1 m q.0) (q.1 n p.0)

  pub size_more : (A : Set) (n : ℤ) (x : Value carrier a) → A x ≡ false → IsSize A n → IsSize (With A x) (n +ℤ pos 1)
  size_more A n x out p = (
    counted_holds (With A x) (n +ℤ pos 1) (more_counted A n x (counted_tells A n p.0)),
    λ k h. next_le n k (p.1 (k -ℤ pos 1) (counted_holds A (k -ℤ pos 1) (part_counted A (Without (With A x) x) (k -ℤ pos 1) within (less_counted (With A x) k x (or_right (A x) (Only x x) (only_self x)) (counted_tells (With A x) k h))))),
  )
    where
      within : (y : Value carrier a) → A y ≡ true → Without (With A x) x y ≡ true
      within y h = apart (With A x) x y (or_left (A y) (Only x y) h) (λ e. let m : true ≡ false = sym h ∙ ap A e ∙ out in absurd cc)

  module _ (c : Bool) (A : Set) where
    pub size_with : (x : Value carrier a) → implies ((c && is_finite U a A) && not (A x)) (U.same integer_sort (size (With A x)) (size A +ℤ pos 1)) ≡ true
    size_with x = implies_from ((c && is_finite U a A) && not (A x)) _ (λ h.
        let finite = second_true c _ (first_true (c && is_finite U a A) _ h) in
        let out : A x ≡ false = not_true (A x) (λ e. let m : false ≡ true = sym (ap not e) ∙ second_true (c && is_finite U a A) _ h in absurd cc) in
        let more = size_more A (size A) x out (size_is A finite) in
        (U.same_exact integer_sort (size (With A x)) (size A +ℤ pos 1)).1
        (one_size (With A x) (size (With A x)) (size A +ℤ pos 1) (size_is (With A x) (some_holds U integer_sort (has_at_most U a (With A x)) (size A +ℤ pos 1) more.0)) more))

    pub size_without : (x : Value carrier a) → implies ((c && is_finite U a A) && A x) (U.same integer_sort (size (Without A x)) (size A -ℤ pos 1)) ≡ true
    size_without x = implies_from ((c && is_finite U a A) && A x) _ (λ h.
        let finite = second_true c _ (first_true (c && is_finite U a A) _ h) in
        let rest : is_finite U a (Without A x) ≡ true = let w = finite_is_counted A finite in
        counted_is_finite (Without A x) w.0 (part_counted (Without A x) A w.0 (λ y m. first_true (A y) _ m) w.1) in
        let out : Without A x x ≡ false = not_true (Without A x x) (λ e. not_apart A x x e refl) in
        let more : IsSize A (size (Without A x) +ℤ pos 1) = subst (λ B. IsSize B (size (Without A x) +ℤ pos 1)) (λ i y. again (second_true (c && is_finite U a A) _ h) y i)
        (size_more (Without A x) (size (Without A x)) x out (size_is (Without A x) rest)) in
        (U.same_exact integer_sort (size (Without A x)) (size A -ℤ pos 1)).1
        (one_down (size (Without A x)) (size A) (one_size A (size (Without A x) +ℤ pos 1) (size A) more (size_is A finite))))
      where
        again : A x ≡ true → (y : Value carrier a) → With (Without A x) x y ≡ A y
        again m y = go (Only x y) refl (A y) refl
          where
            go : (d : Bool) → Only x y ≡ d → (e : Bool) → A y ≡ e → ((e && not d) || d) ≡ e
            go true f true g = refl
            go true f false g = let l : false ≡ true = sym g ∙ ap A (only_tells x y f) ∙ m in absurd cc
            go false f true g = refl
            go false f false g = refl

    pub size_within : (B : Set) → ((v : Value carrier a) → A v ≡ true → B v ≡ true) → is_finite U a B ≡ true → is_finite U a A ≡ true → int_le (size A) (size B) ≡ true
    size_within B within fb fa =
        (size_is A fa).1 (size B) (counted_holds A (size B) (part_counted A B (size B) within (counted_tells B (size B) (size_is B fb).0)))

-- a relation that leads from each of 1 to m is counted by m at least
module _ {carrier : List ℕ → Type 0} (U : Universe carrier) (b : Sort) where
  pub counted_from : (m : ℕ) (A : Value carrier (pair_sort integer_sort b) → Bool) (n : ℤ) → ((i : ℤ) → int_le (pos 1) i ≡ true → int_le i (pos m) ≡ true → (y : Value carrier b) × (A (i, y) ≡ true))
      → Counted U (pair_sort integer_sort b) A n → int_le (pos m) n ≡ true
  counted_from zero A n each w = w.natural
  counted_from (suc m) A n each w =
      let s : Sort = pair_sort integer_sort b in
      let p : (y : Value carrier b) × (A (pos (suc m), y) ≡ true) = each (pos (suc m)) (least_one m) (le_self (pos (suc m))) in
      count_up m n (counted_from m (Without U s A (pos (suc m), p.0)) (n -ℤ pos 1) (λ i l h.
      let q : (y : Value carrier b) × (A (i, y) ≡ true) = each i l (up_from m i h) in
      (q.0, apart U s A (pos (suc m), p.0) (i, q.0) q.1 (λ e. not_last m i h (ap (λ (r : ℤ × Value carrier b). r.0) e))))
      (less_counted U s A n (pos (suc m), p.0) p.1 w))
