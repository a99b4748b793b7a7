-- What may follow a token.
use Rattle.std.specs.Prelude.{◌≡◌, ℕ, ◌==◌, ◌&&◌, Bool, true, not, List, [], ◌∷◌}
use Rattle.formula_core.specs.Names.{is_in_word, prime}
use Rattle.math_tokens.specs.Lexemes.{is_digit}

-- a byte that goes on with no word, name or number: no byte of a word, and no prime
abbrev pub stops : ℕ → Bool
stops c = not (is_in_word c) && (not (is_digit c) && not (c == prime))

-- what follows begins with a byte that passes, if it isn't the end
abbrev pub Follows : (ℕ → Bool) → List ℕ → Type 0
Follows passes [] = Unit {0}
Follows passes (c ∷ rest) = passes c ≡ true
