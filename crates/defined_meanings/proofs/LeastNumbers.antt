-- Least and greatest numbers are chosen by both universes alike.
use Rattle.std.proofs.Common.{Bool, List, ap, arith, false, int_le, int_lt, neg_ℤ, negsuc, pos, refl, subst, suc, sym, true, zero, ℕ, ℤ, ◌&&◌, ◌+ℤ◌, ◌-ℤ◌, ◌∙◌, ◌≡◌}
use Rattle.std.proofs.lemmas.Int.{ints}
use Rattle.formula_core.proofs.Weakening.{both_true, first_true, second_true}
use Rattle.meanings.specs.Operations.{greatest_number, implies, least_number}
use Rattle.meanings.specs.Universes.{Universe, every, some}
use Rattle.meanings.specs.Values.{integer_sort}
use Rattle.meanings.proofs.Bools.{implied_to, implies_from}
use Rattle.meanings.proofs.Quantifiers.{every_holds, every_tells, some_holds}
use Rattle.defined_meanings.proofs.Universes.{every_both}

closer : (n k b m : ℤ) → int_lt n k ≡ true → int_lt (k -ℤ b) (m +ℤ pos 1) ≡ true → int_lt (n -ℤ b) m ≡ true
closer n k b m l h = grind (arith, ints, l, h)

none_below : (k b : ℤ) → int_lt (k -ℤ b) (pos 0) ≡ true → int_le b k ≡ true → ⊥
none_below k b l h = grind (arith, ints, l, h)

not_less : (k n : ℤ) → int_lt n k ≡ false → int_le k n ≡ true
not_less k n h = grind (arith, ints, h)

not_negative : (d k b : ℤ) → (k -ℤ b) ≡ d → int_lt d (pos 0) ≡ true → int_le b k ≡ true → ⊥
not_negative d k b e l h = none_below k b (subst (λ d. int_lt d (pos 0) ≡ true) (sym e) l) h

next : (m : ℤ) → int_lt m (m +ℤ pos 1) ≡ true
next m = grind (arith, ints)

negative : (j : ℕ) → int_lt (negsuc j) (pos 0) ≡ true
negative j = grind (arith, ints)

turned : (b n : ℤ) → int_le n b ≡ true → int_le (neg_ℤ b) (neg_ℤ n) ≡ true
turned b n h = grind (arith, ints, h)

turned_back : (b n : ℤ) → int_le b (neg_ℤ n) ≡ true → int_le n (neg_ℤ b) ≡ true
turned_back b n h = grind (arith, ints, h)

twice : (n : ℤ) → neg_ℤ (neg_ℤ n) ≡ n
twice n = grind (arith, ints)

one : (m n : ℤ) → int_le m n ≡ true → int_le n m ≡ true → m ≡ n
one m n h k = grind (arith, ints, h, k)

module _ {carrier : List ℕ → Type 0} (U : Universe carrier) where
  abbrev pub is_least : (ℤ → Bool) → ℤ → Bool
  is_least test m = test m && every U integer_sort (λ n. implies (test n) (int_le m n))

  abbrev pub is_greatest : (ℤ → Bool) → ℤ → Bool
  is_greatest test m = test m && every U integer_sort (λ n. implies (test n) (int_le n m))

  pub least_is_lower : (test : ℤ → Bool) (m n : ℤ) → is_least test m ≡ true → test n ≡ true → int_le m n ≡ true
  least_is_lower test m n h t = implied_to (test n) (int_le m n) (every_tells U integer_sort (λ n. implies (test n) (int_le m n)) (second_true (test m) _ h) n) t

  greatest_is_higher : (test : ℤ → Bool) (m n : ℤ) → is_greatest test m ≡ true → test n ≡ true → int_le n m ≡ true
  greatest_is_higher test m n h t = implied_to (test n) (int_le n m) (every_tells U integer_sort (λ n. implies (test n) (int_le n m)) (second_true (test m) _ h) n) t

  -- numbers that are bounded below have a least one
  module _ (test : ℤ → Bool) (b : ℤ) (above : (n : ℤ) → test n ≡ true → int_le b n ≡ true) where
    search : (fuel : ℕ) (k : ℤ) → int_lt (k -ℤ b) (pos fuel) ≡ true → test k ≡ true → (m : ℤ) × (is_least test m ≡ true)
    search zero k l h = absurd (none_below k b l (above k h))
    search (suc fuel) k l h = go (some U integer_sort (λ n. test n && int_lt n k)) refl (search fuel)
      where
        at_least : some U integer_sort (λ n. test n && int_lt n k) ≡ false → (n : ℤ) → test n ≡ true → (c : Bool) → int_lt n k ≡ c → int_le k n ≡ true
        at_least e n t true l =
            let found = some_holds U integer_sort (λ n. test n && int_lt n k) n (both_true (test n) (int_lt n k) t l) in
            let m : true ≡ false = sym found ∙ e in absurd cc
        at_least e n t false l = not_less k n l

        go : (c : Bool) → some U integer_sort (λ n. test n && int_lt n k) ≡ c
            → ((k : ℤ) → int_lt (k -ℤ b) (pos fuel) ≡ true → test k ≡ true → (m : ℤ) × (is_least test m ≡ true)) → (m : ℤ) × (is_least test m ≡ true)
        go true e later =
            let n : ℤ = U.choose integer_sort (λ n. test n && int_lt n k) in
            later n (smaller n (second_true (test n) (int_lt n k) e)) (first_true (test n) (int_lt n k) e)
          where
            smaller : (n : ℤ) → int_lt n k ≡ true → int_lt (n -ℤ b) (pos fuel) ≡ true
            smaller n lt = grind (arith, ints, lt, l)
        go false e later =
            (k, both_true (test k) _ h (every_holds U integer_sort (λ n. implies (test n) (int_le k n)) (λ n. implies_from (test n) (int_le k n) (λ t. at_least e n t (int_lt n k) refl))))

    pub least_exists : (k : ℤ) → test k ≡ true → (m : ℤ) × (is_least test m ≡ true)
    least_exists k h = go (k -ℤ b) refl
      where
        go : (d : ℤ) → (k -ℤ b) ≡ d → (m : ℤ) × (is_least test m ≡ true)
        go (pos j) e = search (suc j) k (subst (λ d. int_lt d (pos (suc j)) ≡ true) (sym e) (within j)) h
          where
            within : (j : ℕ) → int_lt (pos j) (pos (suc j)) ≡ true
            within j = grind (arith, ints)
        go (negsuc j) e = absurd (not_negative (negsuc j) k b e (negative j) (above k h))

  -- numbers that are bounded above have a greatest one
  pub greatest_exists : (test : ℤ → Bool) (b : ℤ) → ((n : ℤ) → test n ≡ true → int_le n b ≡ true) → (k : ℤ) → test k ≡ true → (m : ℤ) × (is_greatest test m ≡ true)
  greatest_exists test b below k h =
      let least = least_exists (λ n. test (neg_ℤ n)) (neg_ℤ b) (λ n t. lower n (below (neg_ℤ n) t)) (neg_ℤ k) (ap test (twice k) ∙ h) in
      let m : ℤ = least.0 in (
        neg_ℤ m,
        both_true (test (neg_ℤ m)) _ (first_true (test (neg_ℤ m)) _ least.1)
            (every_holds U integer_sort (λ n. implies (test n) (int_le n (neg_ℤ m))) (λ n. implies_from (test n) (int_le n (neg_ℤ m))
            (λ t. turned_back m n (least_is_lower (λ n. test (neg_ℤ n)) m (neg_ℤ n) least.1 (ap test (twice n) ∙ t))))),
      )
    where
      lower : (n : ℤ) → int_le (neg_ℤ n) b ≡ true → int_le (neg_ℤ b) n ≡ true
      lower n h = grind (arith, ints, h)

module _ {carrier : List ℕ → Type 0} (U V : Universe carrier) where
  pub least_both : (test : ℤ → Bool) (m : ℤ) → is_least U test m ≡ true → least_number U test ≡ least_number V test
  least_both test m h =
      let u : ℤ = least_number U test in let v : ℤ = least_number V test in
      let in_u : is_least U test u ≡ true = U.chooses integer_sort (is_least U test) m h in
      let m_in_v : is_least V test m ≡ true = (λ i. test m && sym (every_both U V integer_sort (λ n. implies (test n) (int_le m n))) i) ∙ h in
      let in_v : is_least V test v ≡ true = V.chooses integer_sort (is_least V test) m m_in_v in
      one u v (least_is_lower U test u v in_u (first_true (test v) _ in_v)) (least_is_lower V test v u in_v (first_true (test u) _ in_u))

  pub greatest_both : (test : ℤ → Bool) (m : ℤ) → is_greatest U test m ≡ true → greatest_number U test ≡ greatest_number V test
  greatest_both test m h =
      let u : ℤ = greatest_number U test in let v : ℤ = greatest_number V test in
      let in_u : is_greatest U test u ≡ true = U.chooses integer_sort (is_greatest U test) m h in
      let m_in_v : is_greatest V test m ≡ true = (λ i. test m && sym (every_both U V integer_sort (λ n. implies (test n) (int_le n m))) i) ∙ h in
      let in_v : is_greatest V test v ≡ true = V.chooses integer_sort (is_greatest V test) m m_in_v in
      one u v (greatest_is_higher V test v u in_v (first_true (test u) _ in_u)) (greatest_is_higher U test u v in_u (first_true (test v) _ in_v))
