-- The heading lines of an input.
use Rattle.std.specs.Prelude.{ℕ, Bool, false, not, ◌||◌, ◌&&◌, ◌==◌, nat_eq, nat_lt, List, [], ◌∷◌, length, take, drop, bytes_eq, codes, Option, Some, None, if◌then◌else◌}
use Rattle.std.specs.List.{take_while}
use Rattle.formula_core.specs.Names.{is_identifier, is_in_word, prime}
use Rattle.formula_core.specs.Texts.{is_ascii_blank}

-- what stands behind the blanks with which the bytes begin
abbrev pub past_blanks : List ℕ → List ℕ
past_blanks [] = []
past_blanks (c ∷ []) = if is_ascii_blank c then [] else c ∷ []
past_blanks (c ∷ d ∷ rest) = if is_ascii_blank c then past_blanks (d ∷ rest) else (if c == 194 && d == 160 then past_blanks rest else c ∷ d ∷ rest)

-- whether the bytes are only blanks
abbrev pub is_blank_text : List ℕ → Bool
is_blank_text bytes = nat_eq (length (past_blanks bytes)) 0

-- whether the text goes on with a prime
abbrev pub goes_on_with_prime : List ℕ → Bool
goes_on_with_prime [] = false
goes_on_with_prime (byte ∷ bytes) = byte == prime

-- the name with which the text begins: its longest word, which isn't reserved and has no prime behind it
abbrev pub name_in_front : List ℕ → Option (List ℕ)
name_in_front text =
    if is_identifier (take_while is_in_word text) && not (goes_on_with_prime (drop (length (take_while is_in_word text)) text))
    then Some (take_while is_in_word text) else None

abbrev pub is_heading_word : List ℕ → Bool
is_heading_word word = bytes_eq word (codes "context") || bytes_eq word (codes "machine")

-- The name of a heading line. It begins with `context` or `machine`, of seven bytes each, then blanks and the name.
abbrev pub heading_of : List ℕ → Option (List ℕ)
heading_of line =
    if is_heading_word (take 7 line) && nat_lt (length (past_blanks (drop 7 line))) (length (drop 7 line))
    then name_in_front (past_blanks (drop 7 line)) else None
