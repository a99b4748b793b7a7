-- Whether a value fits i128, as a fact and as what is computed with it.
use Rattle.std.proofs.Common.{◌≡◌, ap, refl, ℤ, pos, negsuc, ◌^◌, Bool, true, false, List, [], ◌∷◌, Ok, Err, if◌then◌else◌}
use Rattle.std.specs.Prelude.{FitsSigned}
use Rattle.std.specs.Int.{w128}
use Rattle.std.proofs.lemmas.Bool.{lt-ltb, ltb-true}
use Rattle.rule_table.specs.Linear.{fits_i128}
use Rattle.readings_core.specs.declared.values.ValueFault.TheVariants.{TooWide}
use Rattle.readings_core.specs.Values.{unless_wide}
use Rattle.readings_core.specs.Widths.{unless_fitting}

fits_true : (z : ℤ) → FitsSigned w128 z → fits_i128 z ≡ true
fits_true (pos n) h = lt-ltb n (2 ^ 127) h.sfits
fits_true (negsuc n) h = lt-ltb n (2 ^ 127) h.sfits

true_fits : (z : ℤ) → fits_i128 z ≡ true → FitsSigned w128 z
true_fits (pos n) e = record { sfits = ltb-true n (2 ^ 127) e }
true_fits (negsuc n) e = record { sfits = ltb-true n (2 ^ 127) e }

fits_false : (z : ℤ) → ¬ FitsSigned w128 z → fits_i128 z ≡ false
fits_false z h = by_cases (fits_i128 z) refl where
  by_cases : (b : Bool) → fits_i128 z ≡ b → fits_i128 z ≡ false
  by_cases false e = e
  by_cases true e = absurd (h (true_fits z e))

abbrev operands : ℤ → ℤ → List (ℤ × ℤ)
operands m n = (m, n) ∷ []

pub when_fits : (z m n : ℤ) → FitsSigned w128 z → unless_wide (unless_fitting z m n) z ≡ Ok z
when_fits z m n h = ap (λ b. unless_wide (if b then [] else operands m n) z) (fits_true z h)

pub when_too_wide : (z m n : ℤ) → ¬ FitsSigned w128 z → unless_wide (unless_fitting z m n) z ≡ Err (TooWide m n)
when_too_wide z m n h = ap (λ b. unless_wide (if b then [] else operands m n) z) (fits_false z h)

pub ruleset laws = (when_fits, when_too_wide)
