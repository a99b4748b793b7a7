use Rattle.std.proofs.Common.{ℕ, suc, ◌+◌, ◌-◌, ◌*◌, ◌<◌, ◌≤◌, List, [], ◌∷◌, length, get_or, drop, drop-cons, arith}
use Rattle.math_tokens.specs.Lexemes.{value_after}
use Rattle.math_tokens.proofs.lexemes.number.Goals as goal

-- further digits make a number no smaller
grows : (n : ℕ) (digits : List ℕ) → n ≤ value_after n digits
grows n [] = omega arith
grows n (c ∷ cs) = omega (arith, grows (10 * n + (c - 48)) cs)

after_digit : (n i : ℕ) (digits : List ℕ) → i < length digits → 10 * n + (get_or digits i 0 - 48) ≤ value_after n (drop i digits)
after_digit n i digits h = rw (drop-cons digits i 0) (grows (10 * n + (get_or digits i 0 - 48)) (drop (suc i) digits))

pub returns-then-value-last : goal.returns-then-value-last
returns-then-value-last c =
    omega (arith, after_digit c.loop-digit.value c.loop-digit.digit-index c.args.digits.now c.loop-digit-test.true, c.loop-digit.invariant.so_far)
