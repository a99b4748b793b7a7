-- Values that aren't too wide.
use Rattle.std.proofs.Common.{◌≡◌, ◌∙◌, ap, refl, ℕ, zero, suc, ℤ, pos, negsuc, ◌*◌, ◌-◌, ◌<◌, ◌≤◌, ◌^◌, Bool, true, false, Some, None, if◌then◌else◌, arith}
use Rattle.std.specs.Prelude.{FitsSigned, nat_le, unsigned_abs}
use Rattle.std.specs.Int.{w128}
use Rattle.std.proofs.Math.Nat.{pow-zero, pow-suc}
use Rattle.std.proofs.Math.Pow.{pow_mono}
use Rattle.rules_arith.specs.Private.{narrow}

chosen : (z : ℤ) (b : Bool) → nat_le (unsigned_abs z) (2 ^ 127 - 1) ≡ b → narrow z ≡ (if b then Some z else None)
chosen z b e = ap (λ c. if c then Some z else None) e

at_most : (n k : ℕ) → n ≤ k → nat_le n k ≡ true
at_most n k h = grind (arith, h)

above : (n k : ℕ) → k < n → nat_le n k ≡ false
above n k h = grind (arith, h)

-- as natural numbers
pub narrow_natural : (n : ℕ) → n < 2 ^ 127 → narrow (pos n) ≡ Some (pos n)
narrow_natural n h = chosen (pos n) true (at_most n (2 ^ 127 - 1) (omega (arith, h)))

pub wide_natural : (n : ℕ) → 2 ^ 127 ≤ n → narrow (pos n) ≡ None
wide_natural n h = chosen (pos n) false (above n (2 ^ 127 - 1) (omega (arith, h)))

-- what doesn't fit is too wide
pub unfit : (z : ℤ) → ¬ FitsSigned w128 z → narrow z ≡ None
unfit (pos n) h = by_cases (nat_le n (2 ^ 127 - 1)) refl where
  by_cases : (b : Bool) → nat_le n (2 ^ 127 - 1) ≡ b → narrow (pos n) ≡ None
  by_cases false e = chosen (pos n) false e
  by_cases true e = absurd (h (record { sfits = grind (arith, e) }))
unfit (negsuc n) h = by_cases (nat_le (suc n) (2 ^ 127 - 1)) refl where
  by_cases : (b : Bool) → nat_le (suc n) (2 ^ 127 - 1) ≡ b → narrow (negsuc n) ≡ None
  by_cases false e = chosen (negsuc n) false e
  by_cases true e = absurd (h (record { sfits = grind (arith, e) }))

doubled : (a b m : ℕ) → a ≤ b → 2 ≤ m → a * 2 ≤ b * m
doubled a b zero h k = absurd (omega (arith, k))
doubled a b (suc zero) h k = absurd (omega (arith, k))
doubled a b (suc (suc m)) h k = let least : 0 ≤ b * m = omega arith in grind (arith, h, least)

-- a base of 2 or more grows past every narrow value
bases : (m n : ℕ) → 2 ≤ m → 2 ^ n ≤ m ^ n
bases m zero h = let e = pow-zero m in omega (arith, e)
bases m (suc n) h = let less = doubled (2 ^ n) (m ^ n) m (bases m n h) h in let e = pow-suc m n in let d = pow-suc 2 n in omega (arith, less, e, d)

pub wide_power : (m n : ℕ) → 2 ≤ m → 127 ≤ n → narrow (pos (m ^ n)) ≡ None
wide_power m n h k = let a = bases m n h in let b : 2 ^ 127 ≤ 2 ^ n = pow_mono k in wide_natural (m ^ n) (omega (arith, a, b))

-- bases that stay as they are
zeros : (n : ℕ) → 0 < n → 0 ^ n ≡ 0
zeros zero h = absurd (omega (arith, h))
zeros (suc n) h = pow-suc 0 n ∙ omega arith

ones : (n : ℕ) → 1 ^ n ≡ 1
ones zero = pow-zero 1
ones (suc n) = pow-suc 1 n ∙ (let e = ones n in omega (arith, e))

pub zero_base : (m n : ℕ) → m < 1 → 0 < n → narrow (pos (m ^ n)) ≡ Some (pos 0)
zero_base zero n h k = ap (λ p. narrow (pos p)) (zeros n k) ∙ narrow_natural 0 (omega arith)
zero_base (suc m) n h k = absurd (omega (arith, h))

pub one_base : (m n : ℕ) → 1 ≤ m → m < 2 → narrow (pos (m ^ n)) ≡ Some (pos 1)
one_base zero n h k = absurd (omega (arith, h))
one_base (suc zero) n h k = ap (λ p. narrow (pos p)) (ones n) ∙ narrow_natural 1 (omega arith)
one_base (suc (suc m)) n h k = absurd (omega (arith, k))

pub ruleset laws = (narrow_natural, wide_natural, unfit, wide_power, zero_base, one_base)
