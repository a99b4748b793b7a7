-- Quotients, remainders and powers of numbers that aren't negative.
use Rattle.std.proofs.Common.{◌≡◌, ◌==◌, int_div, ◌∙◌, sym, ap, refl, ℕ, zero, suc, ℤ, pos, negsuc, ◌+◌, ◌*◌, ◌/◌, ◌%◌, ◌^◌, ◌<◌, ◌≤◌, ◌+ℤ◌, ◌*ℤ◌, int_le, int_lt, List, Bool, true, false, ◌&&◌, arith}
use Rattle.std.proofs.Math.Nat.{div-add-mod, div-le_self, mod-lt, mod-le, mod-eq_of_lt, one-le-pow, pow-succ'}
use Rattle.std.proofs.lemmas.Bool.{eqb-true}
use Rattle.std.proofs.lemmas.Bool.Decides.{Decides-int_eq}
use Rattle.std.proofs.lemmas.Int.{ints}
use Rattle.std.specs.Ordering.{int_eq}
use Rattle.std.specs.Prelude.{if◌then◌else◌}
use lib.IntN.{pos-*ℤ-pos}
use Rattle.formula_core.proofs.Weakening.{second_true, both_true}
use Rattle.meanings.specs.Operations.{implies, quotient, remainder, raised_to}
use Rattle.meanings.specs.Universes.{Universe, arbitrary}
use Rattle.meanings.specs.Values.{integer_sort}
use Rattle.meanings.proofs.Bools.{implies_from}

at_most_whole : (x r m : ℕ) → x + r ≡ m → int_le (pos x) (pos m) ≡ true
at_most_whole x r m h = grind (arith, ints, h)

below_next : (x r m k : ℕ) → x + r ≡ m → r < suc k → int_lt (pos m) (pos x +ℤ pos (suc k)) ≡ true
below_next x r m k h l = grind (arith, ints, h, l)

natural : (x : ℕ) → int_le (pos 0) (pos x) ≡ true
natural x = grind (arith, ints)

less_than : (x y : ℕ) → x < y → int_lt (pos x) (pos y) ≡ true
less_than x y h = grind (arith, ints, h)

at_most : (x y : ℕ) → x < suc y → int_le (pos x) (pos y) ≡ true
at_most x y h = grind (arith, ints, h)

is_less : (x y : ℕ) → int_lt (pos x) (pos y) ≡ true → x < y
is_less x y h = grind (arith, ints, h)

nonzero : (k : ℕ) → (suc k == 0) ≡ false
nonzero k = go (suc k == 0) refl
  where
    go : (c : Bool) → (suc k == 0) ≡ c → (suc k == 0) ≡ false
    go true h = let e = eqb-true (suc k) 0 h in absurd (omega (arith, e))
    go false h = h

int_nonzero : (k : ℕ) → int_eq (pos (suc k)) (pos 0) ≡ false
int_nonzero k = go (int_eq (pos (suc k)) (pos 0)) refl
  where
    go : (c : Bool) → int_eq (pos (suc k)) (pos 0) ≡ c → int_eq (pos (suc k)) (pos 0) ≡ false
    go true h = let e : pos (suc k) ≡ pos 0 = (Decides-int_eq (pos (suc k)) (pos 0)).0 h in absurd (grind (arith, ints, e))
    go false h = h

-- what isn't so implies all
not_second : (p q r : Bool) → q ≡ false → implies (p && q) r ≡ true
not_second true q r h = λ i. implies (h i) r
not_second false q r h = refl

module _ {carrier : List ℕ → Type 0} (U : Universe carrier) where
  quotient_is : (m k : ℕ) → quotient U (pos m) (pos (suc k)) ≡ pos (m / suc k)
  quotient_is m k = ap (λ c. if c then arbitrary U integer_sort else int_div (pos m) (pos (suc k))) (int_nonzero k)

  remainder_is : (m k : ℕ) → remainder U (pos m) (pos (suc k)) ≡ pos (m % suc k)
  remainder_is m k = ap (λ c. if c then arbitrary U integer_sort else pos (m % suc k)) (nonzero k)

  pub divide_bounds : (x y : ℤ) → implies (int_le (pos 0) x && int_lt (pos 0) y) (int_le (y *ℤ quotient U x y) x && int_lt x (y *ℤ quotient U x y +ℤ y)) ≡ true
  divide_bounds (negsuc m) y = refl
  divide_bounds (pos m) (negsuc k) = not_second (int_le (pos 0) (pos m)) _ _ refl
  divide_bounds (pos m) (pos zero) = not_second (int_le (pos 0) (pos m)) _ _ refl
  divide_bounds (pos m) (pos (suc k)) =
      let times : pos (suc k) *ℤ pos (m / suc k) ≡ pos (suc k * (m / suc k)) = pos-*ℤ-pos (suc k) (m / suc k) in
      let split : suc k * (m / suc k) + m % suc k ≡ m = div-add-mod m (suc k) in
      (λ i. implies (int_le (pos 0) (pos m) && int_lt (pos 0) (pos (suc k))) (int_le (pos (suc k) *ℤ quotient_is m k i) (pos m) && int_lt (pos m) (pos (suc k) *ℤ quotient_is m k i +ℤ pos (suc k))))
      ∙ implies_from (int_le (pos 0) (pos m) && int_lt (pos 0) (pos (suc k))) _ (λ h. both_true (int_le (pos (suc k) *ℤ pos (m / suc k)) (pos m)) (int_lt (pos m) (pos (suc k) *ℤ pos (m / suc k) +ℤ pos (suc k)))
      ((λ i. int_le (times i) (pos m)) ∙ at_most_whole (suc k * (m / suc k)) (m % suc k) m split)
      ((λ i. int_lt (pos m) (times i +ℤ pos (suc k))) ∙ below_next (suc k * (m / suc k)) (m % suc k) m k split (mod-lt m (omega arith))))

  pub divide_range : (x y : ℤ) → implies (int_le (pos 0) x && int_lt (pos 0) y) (int_le (pos 0) (quotient U x y) && int_le (quotient U x y) x) ≡ true
  divide_range (negsuc m) y = refl
  divide_range (pos m) (negsuc k) = not_second (int_le (pos 0) (pos m)) _ _ refl
  divide_range (pos m) (pos zero) = not_second (int_le (pos 0) (pos m)) _ _ refl
  divide_range (pos m) (pos (suc k)) =
      let low = div-le_self m (suc k) in
      (λ i. implies (int_le (pos 0) (pos m) && int_lt (pos 0) (pos (suc k))) (int_le (pos 0) (quotient_is m k i) && int_le (quotient_is m k i) (pos m)))
      ∙ implies_from (int_le (pos 0) (pos m) && int_lt (pos 0) (pos (suc k))) _ (λ h.
      both_true (int_le (pos 0) (pos (m / suc k))) (int_le (pos (m / suc k)) (pos m)) (natural (m / suc k)) (at_most (m / suc k) m (omega (arith, low))))

  pub modulo_bounds : (x y : ℤ) → implies (int_le (pos 0) x && int_lt (pos 0) y) ((int_le (pos 0) (remainder U x y) && int_lt (remainder U x y) y) && int_le (remainder U x y) x) ≡ true
  modulo_bounds (negsuc m) y = refl
  modulo_bounds (pos m) (negsuc k) = not_second (int_le (pos 0) (pos m)) _ _ refl
  modulo_bounds (pos m) (pos zero) = not_second (int_le (pos 0) (pos m)) _ _ refl
  modulo_bounds (pos m) (pos (suc k)) =
      let low = mod-le m (suc k) in
      (λ i. let z = remainder_is m k i in implies (int_le (pos 0) (pos m) && int_lt (pos 0) (pos (suc k))) ((int_le (pos 0) z && int_lt z (pos (suc k))) && int_le z (pos m)))
      ∙ implies_from (int_le (pos 0) (pos m) && int_lt (pos 0) (pos (suc k))) _ (λ h. both_true (int_le (pos 0) (pos (m % suc k)) && int_lt (pos (m % suc k)) (pos (suc k))) (int_le (pos (m % suc k)) (pos m))
      (both_true (int_le (pos 0) (pos (m % suc k))) (int_lt (pos (m % suc k)) (pos (suc k))) (natural (m % suc k)) (less_than (m % suc k) (suc k) (mod-lt m (omega arith)))) (at_most (m % suc k) m (omega (arith, low))))

  pub modulo_small : (x y : ℤ) → implies (int_le (pos 0) x && int_lt x y) (U.same integer_sort (remainder U x y) x) ≡ true
  modulo_small (negsuc m) y = refl
  modulo_small (pos m) (negsuc k) = not_second (int_le (pos 0) (pos m)) _ _ refl
  modulo_small (pos m) (pos zero) = implies_from (int_le (pos 0) (pos m) && int_lt (pos m) (pos zero)) _ (λ h. let l = second_true (int_le (pos 0) (pos m)) _ h in absurd (grind (arith, ints, l)))
  modulo_small (pos m) (pos (suc k)) =
      (λ i. implies (int_le (pos 0) (pos m) && int_lt (pos m) (pos (suc k))) (U.same integer_sort (remainder_is m k i) (pos m)))
      ∙ implies_from (int_le (pos 0) (pos m) && int_lt (pos m) (pos (suc k))) (U.same integer_sort (pos (m % suc k)) (pos m)) (λ h.
      (U.same_exact integer_sort (pos (m % suc k)) (pos m)).1 (ap pos (mod-eq_of_lt (is_less m (suc k) (second_true (int_le (pos 0) (pos m)) _ h)))))

  pub power_positive : (x n : ℤ) → implies (int_lt (pos 0) x && int_le (pos 0) n) (int_le (pos 1) (raised_to U x n)) ≡ true
  power_positive (negsuc m) n = refl
  power_positive (pos zero) n = refl
  power_positive (pos (suc m)) (negsuc k) = not_second (int_lt (pos 0) (pos (suc m))) _ _ refl
  power_positive (pos (suc m)) (pos k) = implies_from (int_lt (pos 0) (pos (suc m)) && int_le (pos 0) (pos k)) _ (λ h.
      let l = one-le-pow k (suc m) (omega arith) in positive (suc m ^ k) l)
    where
      positive : (z : ℕ) → 1 ≤ z → int_le (pos 1) (pos z) ≡ true
      positive z l = grind (arith, ints, l)

  next_natural : (k : ℕ) → pos k +ℤ pos 1 ≡ pos (suc k)
  next_natural k = grind (arith, ints)

  pub power_step : (x n : ℤ) → implies (int_le (pos 0) x && int_le (pos 0) n) (U.same integer_sort (raised_to U x (n +ℤ pos 1)) (x *ℤ raised_to U x n)) ≡ true
  power_step (negsuc m) n = refl
  power_step (pos m) (negsuc k) = not_second (int_le (pos 0) (pos m)) _ _ refl
  power_step (pos m) (pos k) = implies_from (int_le (pos 0) (pos m) && int_le (pos 0) (pos k)) _ (λ h.
      (U.same_exact integer_sort (raised_to U (pos m) (pos k +ℤ pos 1)) (pos m *ℤ pos (m ^ k))).1
      (ap (raised_to U (pos m)) (next_natural k) ∙ ap pos (pow-succ' m k) ∙ sym (pos-*ℤ-pos m (m ^ k))))
