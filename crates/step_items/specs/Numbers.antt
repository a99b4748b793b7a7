-- Numbers of a command.
use Rattle.std.specs.Prelude.{ℕ, ◌-◌, ◌^◌, ◌&&◌, ◌==◌, nat_le, ℤ, pos, neg_ℤ, List, [], ◌∷◌, Option, Some, None, if◌then◌else◌}
use Rattle.std.specs.Option.{option_map}
use Rattle.math_tokens.specs.Lexemes.{is_digits, value_of}

-- the number that the word is in digits, where it is at most so much
abbrev pub number_at_most : ℕ → List ℕ → Option ℕ
number_at_most most word = if is_digits word && nat_le (value_of word) most then Some (value_of word) else None

-- the number of 128 bits that the word is in digits, with a minus before them or without
abbrev pub multiplier_of : List ℕ → Option ℤ
multiplier_of [] = None
multiplier_of (c ∷ digits) =
    if c == 45 then option_map (λ n. neg_ℤ (pos n)) (number_at_most (2 ^ 127) digits)
    else option_map pos (number_at_most (2 ^ 127 - 1) (c ∷ digits))
