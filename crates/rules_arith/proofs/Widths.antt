-- Whether a number fits i128, as a test and as a fact.
use Rattle.std.proofs.Common.{◌≡◌, ap, refl, ℤ, pos, negsuc, ◌^◌, Bool, true, false, Ok, Err, if◌then◌else◌}
use Rattle.std.specs.Prelude.{FitsSigned}
use Rattle.std.specs.Int.{w128}
use Rattle.std.proofs.lemmas.Bool.{lt-ltb, ltb-true}
use Rattle.rule_table.specs.Linear.{fits_i128, Act, acted, checked}

fits_true : (z : ℤ) → FitsSigned w128 z → fits_i128 z ≡ true
fits_true (pos n) h = lt-ltb n (2 ^ 127) h.sfits
fits_true (negsuc n) h = lt-ltb n (2 ^ 127) h.sfits

true_fits : (z : ℤ) → fits_i128 z ≡ true → FitsSigned w128 z
true_fits (pos n) e = record { sfits = ltb-true n (2 ^ 127) e }
true_fits (negsuc n) e = record { sfits = ltb-true n (2 ^ 127) e }

fits_false : (z : ℤ) → ¬ FitsSigned w128 z → fits_i128 z ≡ false
fits_false z h = by_cases (fits_i128 z) refl where
  by_cases : (b : Bool) → fits_i128 z ≡ b → fits_i128 z ≡ false
  by_cases false e = e
  by_cases true e = absurd (h (true_fits z e))

pub when_fits : (act : Act) (m n : ℤ) → FitsSigned w128 (acted act m n) → checked act m n ≡ Ok (acted act m n)
when_fits act m n h = ap (λ b. if b then Ok (acted act m n) else Err (m, n)) (fits_true (acted act m n) h)

pub when_too_wide : (act : Act) (m n : ℤ) → ¬ FitsSigned w128 (acted act m n) → checked act m n ≡ Err (m, n)
when_too_wide act m n h = ap (λ b. if b then Ok (acted act m n) else Err (m, n)) (fits_false (acted act m n) h)

pub ruleset laws = (when_fits, when_too_wide)
