-- Labels and names of obligations.
use Rattle.std.specs.Prelude.{ℕ, Bool, false, not, ◌&&◌, ◌||◌, ◌==◌, nat_le, List, [], ◌∷◌, length}
use Rattle.std.specs.Char.{is_ascii_alphanumeric, is_ascii_uppercase}
use Rattle.std.specs.List.{list_all}

-- a letter, a digit or one of `_ - . '`
abbrev pub is_in_label : ℕ → Bool
is_in_label c = is_ascii_alphanumeric c || c == 95 || c == 45 || c == 46 || c == 39

-- from 1 to 64 of these
abbrev pub is_label : List ℕ → Bool
is_label text = nat_le 1 (length text) && nat_le (length text) 64 && list_all is_in_label text

-- space, tab, CR or LF
abbrev pub is_ascii_blank : ℕ → Bool
is_ascii_blank c = c == 32 || c == 9 || c == 13 || c == 10

abbrev pub begins_with : ℕ → List ℕ → Bool
begins_with byte [] = false
begins_with byte (c ∷ cs) = c == byte

-- whether the first character is a blank: one of the four, or U+00A0, whose two bytes are 194 and 160
abbrev pub begins_with_blank : List ℕ → Bool
begins_with_blank [] = false
begins_with_blank (c ∷ cs) = is_ascii_blank c || c == 194 && begins_with 160 cs

-- whether a blank stands somewhere in a text
abbrev pub has_blank : List ℕ → Bool
has_blank [] = false
has_blank (c ∷ cs) = begins_with_blank (c ∷ cs) || has_blank cs

-- from 1 to 300 bytes without blanks
abbrev pub is_po_name : List ℕ → Bool
is_po_name text = nat_le 1 (length text) && nat_le (length text) 300 && not (has_blank text)

-- the kind of an obligation: from 1 to 8 capital letters
abbrev pub is_kind : List ℕ → Bool
is_kind text = nat_le 1 (length text) && nat_le (length text) 8 && list_all is_ascii_uppercase text

-- a part of an obligation's name that is a label or an identifier: from 1 to 65 characters of labels, among which are those of identifiers
abbrev pub is_part : List ℕ → Bool
is_part text = nat_le 1 (length text) && nat_le (length text) 65 && list_all is_in_label text
