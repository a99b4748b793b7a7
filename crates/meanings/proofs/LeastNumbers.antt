-- A set of numbers that aren't negative has a least one.
use Rattle.std.proofs.Common.{Bool, List, arith, false, int_le, int_lt, negsuc, pos, refl, suc, sym, true, zero, ℕ, ℤ, ◌&&◌, ◌<◌, ◌∙◌, ◌≡◌}
use Rattle.std.proofs.lemmas.Int.{ints}
use Rattle.formula_core.proofs.Weakening.{both_true, first_true, second_true}
use Rattle.meanings.specs.Operations.{implies, least_number}
use Rattle.meanings.specs.Universes.{Universe, every, some}
use Rattle.meanings.specs.Values.{integer_sort}
use Rattle.meanings.proofs.Bools.{implies_from}
use Rattle.meanings.proofs.Quantifiers.{every_holds, some_holds}

module _ {carrier : List ℕ → Type 0} (U : Universe carrier) (test : ℤ → Bool) (natural : (n : ℤ) → test n ≡ true → int_le (pos 0) n ≡ true) where
  -- the least number that passes the test
  abbrev is_least : ℤ → Bool
  is_least m = test m && every U integer_sort (λ n. implies (test n) (int_le m n))

  below : ℤ → Bool
  below k = some U integer_sort (λ n. test n && int_lt n k)

  search_below : (fuel k : ℕ) → k < fuel → test (pos k) ≡ true → (m : ℤ) × (is_least m ≡ true)
  search_below zero k lt h = absurd (omega (arith, lt))
  search_below (suc fuel) k lt h = go (some U integer_sort (λ n. test n && int_lt n (pos k))) refl (search_below fuel)
    where
      smaller : (n : ℤ) → test n ≡ true → int_lt n (pos k) ≡ true → ((k : ℕ) → k < fuel → test (pos k) ≡ true → (m : ℤ) × (is_least m ≡ true)) → (m : ℤ) × (is_least m ≡ true)
      smaller (pos j) t l later = later j (let l' : j < k = grind (arith, ints, l) in omega (arith, l', lt)) t
      smaller (negsuc j) t l later = let n = natural (negsuc j) t in absurd (grind (arith, ints, n))

      go : (b : Bool) → some U integer_sort (λ n. test n && int_lt n (pos k)) ≡ b → ((k : ℕ) → k < fuel → test (pos k) ≡ true → (m : ℤ) × (is_least m ≡ true)) → (m : ℤ) × (is_least m ≡ true)
      go true e later =
          let n : ℤ = U.choose integer_sort (λ n. test n && int_lt n (pos k)) in
          smaller n (first_true (test n) (int_lt n (pos k)) e) (second_true (test n) (int_lt n (pos k)) e) later
      go false e later = (pos k, both_true (test (pos k)) _ h (every_holds U integer_sort (λ n. implies (test n) (int_le (pos k) n)) (λ n. implies_from (test n) (int_le (pos k) n) (λ t. at_least n t (int_lt n (pos k)) refl))))
        where
          at_least : (n : ℤ) → test n ≡ true → (c : Bool) → int_lt n (pos k) ≡ c → int_le (pos k) n ≡ true
          at_least n t true l =
              let found = some_holds U integer_sort (λ n. test n && int_lt n (pos k)) n (both_true (test n) (int_lt n (pos k)) t l) in
              let m : true ≡ false = sym found ∙ e in absurd cc
          at_least n t false l = grind (arith, ints, l)

  from : (n : ℤ) → test n ≡ true → (m : ℤ) × (is_least m ≡ true)
  from (pos k) t = search_below (suc k) k (omega arith) t
  from (negsuc k) t = let n = natural (negsuc k) t in absurd (grind (arith, ints, n))

  pub least_passes : some U integer_sort test ≡ true → test (least_number U test) ≡ true
  least_passes h =
      let m = from (U.choose integer_sort test) h in
      first_true (test (least_number U test)) _ (U.chooses integer_sort is_least m.0 m.1)
