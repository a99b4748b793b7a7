-- The least of the numbers that pass a test, where these have a lower bound, and the greatest, where they have an upper one.
use Rattle.std.proofs.Common.{◌≡◌, ◌∙◌, ◌⊎◌, inl, inr, sym, ap, refl, ℕ, zero, suc, List, ℤ, pos, negsuc, neg_ℤ, ◌+ℤ◌, ◌-ℤ◌, int_le, Bool, true, false, ◌&&◌}
use Rattle.std.proofs.Math.IntN.{neg_ℤ-neg_ℤ}
use Rattle.formula_core.proofs.Weakening.{first_true, second_true, both_true}
use Rattle.meanings.specs.Operations.{implies, least_number, greatest_number}
use Rattle.meanings.specs.Universes.{Universe, every}
use Rattle.meanings.specs.Values.{integer_sort}
use Rattle.meanings.proofs.Bools.{implied_to, implies_from}
use Rattle.meanings.proofs.Quantifiers.{every_holds, every_tells}
use Rattle.true_facts.proofs.Integers.{at_start, last_from, none_past, not_below, further, turned_left, turned_right}

abbrev pub IsLeast : (ℤ → Bool) → ℤ → Type 0
IsLeast test m = (test m ≡ true) × ((n : ℤ) → test n ≡ true → int_le m n ≡ true)

abbrev pub IsGreatest : (ℤ → Bool) → ℤ → Type 0
IsGreatest test m = (test m ≡ true) × ((n : ℤ) → test n ≡ true → int_le n m ≡ true)

module _ (test : ℤ → Bool) (low : ℤ) (within : (n : ℤ) → test n ≡ true → int_le low n ≡ true) where
  -- the least one, or none is below this one
  abbrev Search : ℕ → Type 0
  Search k = ((m : ℤ) × IsLeast test m) ⊎ ((n : ℤ) → test n ≡ true → int_le (low +ℤ pos k) n ≡ true)

  search_up : (k : ℕ) → Search k
  search_up zero = inr (λ n h. at_start low n (within n h))
  search_up (suc k) = go (search_up k) (test (low +ℤ pos k)) refl
    where
      above : test (low +ℤ pos k) ≡ false → (n : ℤ) → test n ≡ true → int_le (low +ℤ pos k) n ≡ true → (c : Bool) → int_le (low +ℤ pos (suc k)) n ≡ c → int_le (low +ℤ pos (suc k)) n ≡ true
      above e n h l true f = f
      above e n h l false f = let m : true ≡ false = sym h ∙ ap test (last_from low n k l f) ∙ e in absurd cc

      go : Search k → (c : Bool) → test (low +ℤ pos k) ≡ c → Search (suc k)
      go (inl found) c e = inl found
      go (inr none) true e = inl (low +ℤ pos k, (e, none))
      go (inr none) false e = inr (λ n h. above e n h (none n h) (int_le (low +ℤ pos (suc k)) n) refl)

  pub least_exists : (n : ℤ) → test n ≡ true → (m : ℤ) × IsLeast test m
  least_exists n h = go (n -ℤ low) refl
    where
      found : (k : ℕ) → n ≡ low +ℤ pos k → Search (suc k) → (m : ℤ) × IsLeast test m
      found k e (inl w) = w
      found k e (inr none) = absurd (none_past low n k e (none n h))

      go : (k : ℤ) → n -ℤ low ≡ k → (m : ℤ) × IsLeast test m
      go (pos k) e = found k (further low n (pos k) e) (search_up (suc k))
      go (negsuc k) e = let m : false ≡ true = sym (ap (int_le (pos 0)) e) ∙ not_below low n (within n h) in absurd cc

module _ {carrier : List ℕ → Type 0} (U : Universe carrier) where
  pub least_is : (test : ℤ → Bool) (m : ℤ) → IsLeast test m → IsLeast test (least_number U test)
  least_is test m w =
      let Least : ℤ → Bool = λ k. test k && every U integer_sort (λ n. implies (test n) (int_le k n)) in
      let passes : Least (least_number U test) ≡ true =
      U.chooses integer_sort Least m (both_true (test m) _ w.0 (every_holds U integer_sort (λ n. implies (test n) (int_le m n)) (λ n. implies_from (test n) (int_le m n) (w.1 n)))) in (
        first_true (test (least_number U test)) _ passes,
        λ n h. implied_to (test n) (int_le (least_number U test) n) (every_tells U integer_sort (λ n. implies (test n) (int_le (least_number U test) n)) (second_true (test (least_number U test)) _ passes) n) h,
      )

  pub greatest_is : (test : ℤ → Bool) (m : ℤ) → IsGreatest test m → IsGreatest test (greatest_number U test)
  greatest_is test m w =
      let Greatest : ℤ → Bool = λ k. test k && every U integer_sort (λ n. implies (test n) (int_le n k)) in
      let passes : Greatest (greatest_number U test) ≡ true =
      U.chooses integer_sort Greatest m (both_true (test m) _ w.0 (every_holds U integer_sort (λ n. implies (test n) (int_le n m)) (λ n. implies_from (test n) (int_le n m) (w.1 n)))) in (
        first_true (test (greatest_number U test)) _ passes,
        λ n h. implied_to (test n) (int_le n (greatest_number U test)) (every_tells U integer_sort (λ n. implies (test n) (int_le n (greatest_number U test))) (second_true (test (greatest_number U test)) _ passes) n) h,
      )

-- the greatest, by the least of the negated numbers
pub greatest_exists : (test : ℤ → Bool) (high : ℤ) → ((n : ℤ) → test n ≡ true → int_le n high ≡ true) → (n : ℤ) → test n ≡ true → (m : ℤ) × IsGreatest test m
greatest_exists test high within n h =
    let back : (k : ℤ) → test k ≡ true → test (neg_ℤ (neg_ℤ k)) ≡ true = λ k t. ap test (neg_ℤ-neg_ℤ k) ∙ t in
    let w = least_exists (λ k. test (neg_ℤ k)) (neg_ℤ high) (λ k t. turned_right high k (within (neg_ℤ k) t)) (neg_ℤ n) (back n h) in
    (neg_ℤ w.0, (w.1.0, λ k t. turned_left w.0 k (w.1.1 (neg_ℤ k) (back k t))))
