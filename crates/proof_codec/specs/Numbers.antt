-- Numbers as bytes, the least first.
use Rattle.std.specs.Prelude.{ℕ, ℤ, ◌<◌, ◌^◌, ◌%◌, ◌/◌, List, [], ◌∷◌, ◌++◌, length, true, ◌≡◌, ◌≤◌, IsTrue}
use Rattle.std.specs.Int.{w32, w64, w128, to_le_bytes, cast_unsigned}
use Rattle.std.specs.Str.{is_utf8}
use Rattle.rule_table.specs.Linear.{fits_i128}

abbrev pub IsByte : ℕ → Type 0
IsByte n = n < 256

abbrev pub byte : ℕ → List ℕ
byte n = n ∷ []

abbrev pub FitsU32 : ℕ → Type 0
FitsU32 n = n < 2 ^ 32

-- a number of four bytes
abbrev pub number_bytes : ℕ → List ℕ
number_bytes n = to_le_bytes w32 n

-- a text of at most so many bytes: its length, and its bytes
abbrev pub IsText : ℕ → List ℕ → Type 0
IsText most text = (is_utf8 text ≡ true) × (length text ≤ most)

abbrev pub text_bytes : List ℕ → List ℕ
text_bytes text = number_bytes (length text) ++ text

-- a number of eight bytes
abbrev pub wide : ℕ → List ℕ
wide n = to_le_bytes w64 n

-- from −(2^127) to 2^127 − 1
abbrev pub IsInteger : ℤ → Type 0
IsInteger z = IsTrue (fits_i128 z)

-- sixteen bytes, the lower half before the upper one
abbrev pub sixteen : ℕ → List ℕ
sixteen n = wide (n % 2 ^ 64) ++ wide (n / 2 ^ 64)

-- an integer of sixteen bytes; a negative one is 2^128 greater there
abbrev pub integer : ℤ → List ℕ
integer z = sixteen (cast_unsigned w128 z)
