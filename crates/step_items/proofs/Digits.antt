-- The value of digits.
use Rattle.std.proofs.Common.{◌≡◌, ℕ, ◌+◌, ◌-◌, ◌*◌, ◌^◌, ◌<◌, min, List, [], ◌∷◌, ◌++◌, length, take, get_or, refl, sym, ap, ◌∙◌, arith}
use Rattle.std.proofs.lemmas.List.{take_more}
use Rattle.math_tokens.specs.Lexemes.{value_of, value_after}

one_more : (n : ℕ) (digits : List ℕ) (c : ℕ) → value_after n (digits ++ c ∷ []) ≡ 10 * value_after n digits + (c - 48)
one_more n [] c = refl
one_more n (d ∷ digits) c = one_more (10 * n + (d - 48)) digits c

saturated : (most whole value product digit sum : ℕ) → value ≡ min whole most → product ≡ min (value * 10) most → sum ≡ min (product + digit) most → sum ≡ min (10 * whole + digit) most
saturated most whole value product digit sum a b c = omega (arith, a, b, c)

-- the value with one digit more
pub grown : (digits : List ℕ) (i value product digit sum : ℕ) → i < length digits → value ≡ min (value_of (take i digits)) (2 ^ 128 - 1) →
    product ≡ min (value * 10) (2 ^ 128 - 1) → digit ≡ get_or digits i 0 - 48 → sum ≡ min (product + digit) (2 ^ 128 - 1) → sum ≡ min (value_of (take (i + 1) digits)) (2 ^ 128 - 1)
grown digits i value product digit sum less a b d c =
    saturated (2 ^ 128 - 1) (value_of (take i digits)) value product digit sum a b c
    ∙ ap (λ k. min (10 * value_of (take i digits) + k) (2 ^ 128 - 1)) d
    ∙ ap (λ n. min n (2 ^ 128 - 1)) (sym (ap value_of (take_more digits i 0 less) ∙ one_more 0 (take i digits) (get_or digits i 0)))
