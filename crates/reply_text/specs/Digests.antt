-- Printed digests.
use Rattle.std.specs.Prelude.{ℕ, ◌+◌, ◌/◌, ◌%◌, nat_lt, List, [], ◌∷◌, if◌then◌else◌}
use Rattle.std.specs.List.{flat_map}

-- a lower-case hexadecimal digit: `0` to `9` are 48 to 57, and `a` to `f` are 97 to 102
abbrev pub hex_digit : ℕ → ℕ
hex_digit n = if nat_lt n 10 then 48 + n else 87 + n

abbrev pub hex_pair : ℕ → List ℕ
hex_pair byte = hex_digit (byte / 16) ∷ hex_digit (byte % 16) ∷ []

-- each byte in two digits
abbrev pub hex_text : List ℕ → List ℕ
hex_text bytes = flat_map hex_pair bytes
