-- Texts in UTF-8.
use Prim.Native.String.{String}
use Rattle.std.specs.Prelude.{ℕ, ◌+◌, ◌/◌, ◌%◌, nat_lt, List, [], ◌∷◌, map, codes, if◌then◌else◌}
use Rattle.formula_core.specs.Formulas.{joined}

-- the bytes of a character below U+10000
abbrev pub utf8 : ℕ → List ℕ
utf8 c =
    if nat_lt c 0x80 then (c ∷ [])
    else (if nat_lt c 0x800 then ((0xc0 + c / 0x40) ∷ (0x80 + c % 0x40) ∷ [])
    else ((0xe0 + c / 0x1000) ∷ (0x80 + c / 0x40 % 0x40) ∷ (0x80 + c % 0x40) ∷ []))

-- the bytes of a text
abbrev pub bytes : String → List ℕ
bytes text = joined (map utf8 (codes text))
