-- Words of a line, which blanks separate. The blanks are those of formulas: space, tab, carriage return, line feed, which no line has, and U+00A0,
-- whose two bytes are 194 and 160.
use Rattle.std.specs.Prelude.{ℕ, ◌+◌, ◌&&◌, ◌==◌, List, [], ◌∷◌, take, drop, if◌then◌else◌}
use Rattle.formula_core.specs.Texts.{is_ascii_blank, begins_with_blank}

-- what follows the blanks at the front
abbrev pub after_blanks : List ℕ → List ℕ
after_blanks [] = []
after_blanks (c ∷ []) = if is_ascii_blank c then [] else c ∷ []
after_blanks (c ∷ d ∷ line) = if is_ascii_blank c then after_blanks (d ∷ line) else (if c == 194 && d == 160 then after_blanks line else c ∷ d ∷ line)

-- how many bytes stand before the first blank
abbrev pub length_to_blank : List ℕ → ℕ
length_to_blank [] = 0
length_to_blank (c ∷ line) = if begins_with_blank (c ∷ line) then 0 else 1 + length_to_blank line

-- the bytes before the first blank
abbrev pub first_word : List ℕ → List ℕ
first_word line = take (length_to_blank line) line

-- what follows them
abbrev pub behind_word : List ℕ → List ℕ
behind_word line = drop (length_to_blank line) line
