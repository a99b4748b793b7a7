-- Names and labels by their bytes. Private contracts alone cite this.
use Rattle.std.specs.Prelude.{◌≡◌, ℕ, Bool, true, false, not, ◌||◌, ◌&&◌, bytes_eq, List, drop, Option, Some, None}
use Rattle.std.specs.List.{prefix_len}
use Rattle.formula_core.specs.Names.{is_identifier}
use Rattle.formula_core.specs.Texts.{is_label, begins_with}
use Rattle.math_tokens.specs.declared.cutting.Token.{Token}
use Rattle.math_grammar.specs.Tokens.{bytes_of}
use Rattle.component_tokens.specs.Pieces.{at_sign}
use Rattle.component_text.specs.declared.cursor.Kind.{Kind}
use Rattle.component_text.specs.declared.cursor.Kind.TheVariants as kind
use Rattle.component_text.specs.Marks.{is_structural}

-- the name that the bytes are
abbrev pub IsNameOf : Option (List ℕ) → List ℕ → Type 0
IsNameOf (Some n) bytes = (n ≡ bytes) × (is_identifier bytes ≡ true)
IsNameOf None bytes = is_identifier bytes ≡ false

abbrev pub IsLabelOf : Option (List ℕ) → List ℕ → Type 0
IsLabelOf (Some l) bytes = (l ≡ bytes) × (is_label bytes ≡ true)
IsLabelOf None bytes = is_label bytes ≡ false

-- a token with these bytes is part of a formula
abbrev pub is_plain_text : List ℕ → Bool
is_plain_text bytes = not (begins_with at_sign bytes || is_structural bytes)

-- a token with these bytes is the structural word
abbrev pub is_word_text : List ℕ → List ℕ → Bool
is_word_text w bytes = bytes_eq bytes w && (not (begins_with at_sign bytes) && is_structural bytes)

-- how many tokens stand before the next structural word or label
abbrev pub plain_length : List ℕ → List Token → ℕ
plain_length text tokens = prefix_len (λ t. is_plain_text (bytes_of text t)) tokens

-- what a token with these bytes is to the grammar of components
abbrev pub IsKindOf : List ℕ → Kind → Type 0
IsKindOf bytes (kind.Word w) = (begins_with at_sign bytes ≡ false) × (is_structural bytes ≡ true) × (w.now ≡ bytes)
IsKindOf bytes (kind.Label l) = (begins_with at_sign bytes ≡ true) × (l.now ≡ drop 1 bytes)
IsKindOf bytes (kind.Plain p) = (begins_with at_sign bytes ≡ false) × (is_structural bytes ≡ false) × (p.now ≡ bytes)
