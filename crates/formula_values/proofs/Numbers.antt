-- Numbers that are no numbers of 128 bits.
use Rattle.std.proofs.Common.{◌≡◌, ◌∙◌, ap, sym, subst, refl, ℕ, zero, suc, ℤ, pos, negsuc, ◌*◌, ◌<◌, ◌≤◌, ◌^◌, Bool, true, false, Option, Some, None, Result, Ok, Err, arith}
use Rattle.std.specs.Prelude.{FitsSigned, nat_lt, ◌+ℤ◌, ◌-ℤ◌, ◌*ℤ◌, ◌≤ℤ◌, ◌<ℤ◌, ◌==◌, ◌%◌, unsigned_abs, int_div, int_rem, MatchOption, if◌then◌else◌}
use Rattle.std.proofs.lemmas.Int.{ints}
use Rattle.formula_core.specs.declared.op.Op.{Op}
use Rattle.formula_core.specs.declared.op.Op.TheVariants as op
use Rattle.rule_table.specs.ArithmeticLaws.{computed_value}
use Rattle.std.specs.Int.{w128}
use Rattle.std.proofs.Math.Nat.{pow-zero, pow-suc}
use Rattle.std.proofs.Math.Dec.{eqb-suc-zero}
use Rattle.std.proofs.Math.Pow.{pow_mono}
use Rattle.std.proofs.lemmas.Bool.{lt-ltb, ltb-true, le-ltb}
use Rattle.rule_table.specs.Linear.{fits_i128}
use Rattle.event_values.specs.declared.value.Value.{Value}
use Rattle.event_values.specs.declared.value.Value.TheVariants as value
use Rattle.value_sets.specs.declared.fault.ValueFault.{ValueFault}
use Rattle.value_sets.specs.declared.fault.ValueFault.TheVariants.{Undefined, TooWide}
use Rattle.formula_values.specs.Means.{IsNumber, IsComputed}

pub fitting : (k : ℤ) → FitsSigned w128 k → fits_i128 k ≡ true
fitting (pos n) h = lt-ltb n (2 ^ 127) h.sfits
fitting (negsuc n) h = lt-ltb n (2 ^ 127) h.sfits

true_fits : (k : ℤ) → fits_i128 k ≡ true → FitsSigned w128 k
true_fits (pos n) e = record { sfits = ltb-true n (2 ^ 127) e }
true_fits (negsuc n) e = record { sfits = ltb-true n (2 ^ 127) e }

pub unfitting : (k : ℤ) → ¬ FitsSigned w128 k → fits_i128 k ≡ false
unfitting k h = by_cases (fits_i128 k) refl
  where
    by_cases : (b : Bool) → fits_i128 k ≡ b → fits_i128 k ≡ false
    by_cases false e = e
    by_cases true e = absurd (h (true_fits k e))

below_bound : (n k : ℕ) → n < k → nat_lt n k ≡ true
below_bound n k h = lt-ltb n k h

above_bound : (n k : ℕ) → k ≤ n → nat_lt n k ≡ false
above_bound n k h = le-ltb n k h

pub number_natural : (k : ℕ) (wide : ValueFault) → k < 2 ^ 127 → IsNumber (pos k) wide (Ok (value.Int (pos k)))
number_natural k wide h = (refl, below_bound k (2 ^ 127) h)

pub wide_natural : (k : ℕ) (wide : ValueFault) → 2 ^ 127 ≤ k → IsNumber (pos k) wide (Err wide)
wide_natural k wide h = (refl, above_bound k (2 ^ 127) h)

doubled : (a b m : ℕ) → a ≤ b → 2 ≤ m → a * 2 ≤ b * m
doubled a b zero h k = absurd (omega (arith, k))
doubled a b (suc zero) h k = absurd (omega (arith, k))
doubled a b (suc (suc m)) h k = let least : 0 ≤ b * m = omega arith in grind (arith, h, least)

-- a base of 2 or more grows past every number of 128 bits
bases : (m n : ℕ) → 2 ≤ m → 2 ^ n ≤ m ^ n
bases m zero h = let e = pow-zero m in omega (arith, e)
bases m (suc n) h = let less = doubled (2 ^ n) (m ^ n) m (bases m n h) h in let e = pow-suc m n in let d = pow-suc 2 n in omega (arith, less, e, d)

pub wide_power : (m n : ℕ) (wide : ValueFault) → 2 ≤ m → 127 ≤ n → IsNumber (pos (m ^ n)) wide (Err wide)
wide_power m n wide h k = let a = bases m n h in let b : 2 ^ 127 ≤ 2 ^ n = pow_mono k in wide_natural (m ^ n) wide (omega (arith, a, b))

zeros : (n : ℕ) → 0 < n → 0 ^ n ≡ 0
zeros zero h = absurd (omega (arith, h))
zeros (suc n) h = pow-suc 0 n ∙ omega arith

ones : (n : ℕ) → 1 ^ n ≡ 1
ones zero = pow-zero 1
ones (suc n) = pow-suc 1 n ∙ (let e = ones n in omega (arith, e))

small_number : (p k : ℕ) (wide : ValueFault) → p ≡ k → k < 2 ^ 127 → IsNumber (pos p) wide (Ok (value.Int (pos k)))
small_number p k wide e h = (ap (λ z. value.Int (pos z)) (sym e), ap (λ z. fits_i128 (pos z)) e ∙ below_bound k (2 ^ 127) h)

pub power_zero : (m n : ℕ) (wide : ValueFault) → n < 1 → IsNumber (pos (m ^ n)) wide (Ok (value.Int (pos 1)))
power_zero m zero wide h = small_number (m ^ 0) 1 wide (pow-zero m) (omega arith)
power_zero m (suc n) wide h = absurd (omega (arith, h))

pub zero_base : (m n : ℕ) (wide : ValueFault) → m < 1 → 0 < n → IsNumber (pos (m ^ n)) wide (Ok (value.Int (pos 0)))
zero_base zero n wide h k = small_number (0 ^ n) 0 wide (zeros n k) (omega arith)
zero_base (suc m) n wide h k = absurd (omega (arith, h))

pub one_base : (m n : ℕ) (wide : ValueFault) → 1 ≤ m → m < 2 → IsNumber (pos (m ^ n)) wide (Ok (value.Int (pos 1)))
one_base zero n wide h k = absurd (omega (arith, h))
one_base (suc zero) n wide h k = small_number (1 ^ n) 1 wide (ones n) (omega arith)
one_base (suc (suc m)) n wide h k = absurd (omega (arith, k))

-- WHAT AN OPERATOR GIVES

given : (o : Op) (m n z k : ℤ) → computed_value o m n ≡ Some z → FitsSigned w128 z → k ≡ z → IsComputed o m n (Ok (value.Int k))
given o m n z k e f is =
    let r : Result Value ValueFault = Ok (value.Int k) in
    let Q : Option ℤ → Type 0 = λ x. MatchOption x (◌≡◌ {A = Result Value ValueFault} r (Err Undefined)) (λ y. IsNumber y (TooWide m n) r) in
    subst Q (sym e) (ap value.Int is, fitting z f)

wide_given : (o : Op) (m n z : ℤ) → computed_value o m n ≡ Some z → ¬ FitsSigned w128 z → IsComputed o m n (Err (TooWide m n))
wide_given o m n z e f =
    let r : Result Value ValueFault = Err (TooWide m n) in
    let Q : Option ℤ → Type 0 = λ x. MatchOption x (◌≡◌ {A = Result Value ValueFault} r (Err Undefined)) (λ y. IsNumber y (TooWide m n) r) in
    subst Q (sym e) (refl, unfitting z f)

undefined : (o : Op) (m n : ℤ) → computed_value o m n ≡ None → IsComputed o m n (Err Undefined)
undefined o m n e =
    let r : Result Value ValueFault = Err Undefined in
    let Q : Option ℤ → Type 0 = λ x. MatchOption x (◌≡◌ {A = Result Value ValueFault} r (Err Undefined)) (λ y. IsNumber y (TooWide m n) r) in
    subst Q (sym e) refl

pub sum_there : (m n k : ℤ) → FitsSigned w128 (m +ℤ n) → k ≡ m +ℤ n → IsComputed op.Plus m n (Ok (value.Int k))
sum_there m n k f is = given op.Plus m n (m +ℤ n) k refl f is

pub sum_wide : (m n : ℤ) → ¬ FitsSigned w128 (m +ℤ n) → IsComputed op.Plus m n (Err (TooWide m n))
sum_wide m n f = wide_given op.Plus m n (m +ℤ n) refl f

pub difference_there : (m n k : ℤ) → FitsSigned w128 (m -ℤ n) → k ≡ m -ℤ n → IsComputed op.Minus m n (Ok (value.Int k))
difference_there m n k f is = given op.Minus m n (m -ℤ n) k refl f is

pub difference_wide : (m n : ℤ) → ¬ FitsSigned w128 (m -ℤ n) → IsComputed op.Minus m n (Err (TooWide m n))
difference_wide m n f = wide_given op.Minus m n (m -ℤ n) refl f

pub product_there : (m n k : ℤ) → FitsSigned w128 (m *ℤ n) → k ≡ m *ℤ n → IsComputed op.Times m n (Ok (value.Int k))
product_there m n k f is = given op.Times m n (m *ℤ n) k refl f is

pub product_wide : (m n : ℤ) → ¬ FitsSigned w128 (m *ℤ n) → IsComputed op.Times m n (Err (TooWide m n))
product_wide m n f = wide_given op.Times m n (m *ℤ n) refl f

pub ruleset sums = (sum_there, sum_wide, difference_there, difference_wide, product_there, product_wide)

suc_is_not : (b : ℕ) → (suc b == 0) ≡ false
suc_is_not b = eqb-suc-zero b

nonzero : (n : ℤ) → ¬ (n ≡ pos 0) → (unsigned_abs n == 0) ≡ false
nonzero (pos zero) h = absurd (h refl)
nonzero (pos (suc b)) h = suc_is_not b
nonzero (negsuc b) h = suc_is_not b

quotient_is : (m n : ℤ) → ¬ (n ≡ pos 0) → computed_value op.Divide m n ≡ Some (int_div m n)
quotient_is m n h = ap (λ b. if b then None else Some (int_div m n)) (nonzero n h)

pub quotient_there : (m n k : ℤ) → ¬ (n ≡ pos 0) → FitsSigned w128 (int_div m n) → k ≡ int_div m n → IsComputed op.Divide m n (Ok (value.Int k))
quotient_there m n k h f is = given op.Divide m n (int_div m n) k (quotient_is m n h) f is

pub quotient_wide : (m n : ℤ) → ¬ (n ≡ pos 0) → ¬ FitsSigned w128 (int_div m n) → IsComputed op.Divide m n (Err (TooWide m n))
quotient_wide m n h f = wide_given op.Divide m n (int_div m n) (quotient_is m n h) f

pub quotient_undefined : (m n : ℤ) → n ≡ pos 0 → IsComputed op.Divide m n (Err Undefined)
quotient_undefined m n e = undefined op.Divide m n (ap (computed_value op.Divide m) e)

pub ruleset quotients = (quotient_there, quotient_wide, quotient_undefined)

remainder_is : (m n : ℤ) → pos 0 ≤ℤ m → pos 0 <ℤ n → computed_value op.Modulo m n ≡ Some (int_rem m n)
remainder_is (pos a) (pos zero) h g = absurd (omega (arith, ints, g))
remainder_is (pos a) (pos (suc b)) h g = ap (λ c. if c then None else Some (pos (a % suc b))) (suc_is_not b)
remainder_is (pos a) (negsuc b) h g = absurd (omega (arith, ints, g))
remainder_is (negsuc a) n h g = absurd (omega (arith, ints, h))

pub remainder_there : (m n k : ℤ) → pos 0 ≤ℤ m → pos 0 <ℤ n → FitsSigned w128 k → k ≡ int_rem m n → IsComputed op.Modulo m n (Ok (value.Int k))
remainder_there m n k h g f is = given op.Modulo m n (int_rem m n) k (remainder_is m n h g) (subst (FitsSigned w128) is f) is

pub remainder_left : (m n : ℤ) → m <ℤ pos 0 → IsComputed op.Modulo m n (Err Undefined)
remainder_left (pos a) n h = absurd (omega (arith, ints, h))
remainder_left (negsuc a) n h = undefined op.Modulo (negsuc a) n refl

pub remainder_right : (m n : ℤ) → n ≤ℤ pos 0 → IsComputed op.Modulo m n (Err Undefined)
remainder_right (pos a) (pos zero) h = undefined op.Modulo (pos a) (pos 0) refl
remainder_right (pos a) (pos (suc b)) h = absurd (omega (arith, ints, h))
remainder_right (pos a) (negsuc b) h = undefined op.Modulo (pos a) (negsuc b) refl
remainder_right (negsuc a) n h = undefined op.Modulo (negsuc a) n refl

pub ruleset remainders = (remainder_there, remainder_left, remainder_right)

pub power_there : (m n : ℤ) (a b : ℕ) (wide : ValueFault) (r : Result Value ValueFault) → m ≡ pos a → n ≡ pos b → wide ≡ TooWide m n → IsNumber (pos (a ^ b)) wide r
    → IsComputed op.Power m n r
power_there m n a b wide r e f is h =
    let Q : Option ℤ → Type 0 = λ x. MatchOption x (◌≡◌ {A = Result Value ValueFault} r (Err Undefined)) (λ y. IsNumber y (TooWide m n) r) in
    subst Q (sym (λ i. computed_value op.Power (e i) (f i))) (subst (λ w. IsNumber (pos (a ^ b)) w r) is h)

pub power_left : (m n : ℤ) → m <ℤ pos 0 → IsComputed op.Power m n (Err Undefined)
power_left (pos a) n h = absurd (omega (arith, ints, h))
power_left (negsuc a) n h = undefined op.Power (negsuc a) n refl

pub power_right : (m n : ℤ) → n <ℤ pos 0 → IsComputed op.Power m n (Err Undefined)
power_right m (pos b) h = absurd (omega (arith, ints, h))
power_right (pos a) (negsuc b) h = undefined op.Power (pos a) (negsuc b) refl
power_right (negsuc a) (negsuc b) h = undefined op.Power (negsuc a) (negsuc b) refl

pub ruleset powers = (power_there, power_left, power_right)

pub ruleset laws = (number_natural, wide_natural, wide_power, power_zero, zero_base, one_base)
