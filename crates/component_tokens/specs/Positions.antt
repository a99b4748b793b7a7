-- Lines and columns.
use Rattle.std.specs.Prelude.{ℕ, ◌+◌, Bool, ◌&&◌, ◌==◌, nat_le, nat_lt, List, [], ◌∷◌, take, if◌then◌else◌}
use Rattle.component_tokens.specs.declared.positions.Position.{Position}

abbrev pub place : ℕ → ℕ → Position
place line column = record { line = line; column = column }

-- the byte goes on with a character that an earlier one begins
abbrev pub continues_character : ℕ → Bool
continues_character c = nat_le 128 c && nat_lt c 192

-- a line feed ends a line, and each other character takes one column
abbrev pub behind_byte : Position → ℕ → Position
behind_byte p c =
    if c == 10 then place (p.line + 1) 1 else (if continues_character c then p else place p.line (p.column + 1))

abbrev pub position_behind : Position → List ℕ → Position
position_behind p [] = p
position_behind p (c ∷ cs) = position_behind (behind_byte p c) cs

-- the position of a byte place: what stands before it begins at line 1, column 1
abbrev pub position_in_text : List ℕ → ℕ → Position
position_in_text text at = position_behind (place 1 1) (take at text)
