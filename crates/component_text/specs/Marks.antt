-- The tokens of a component's text as its grammar sees them.
use Rattle.std.specs.Prelude.{ℕ, Bool, false, List, [], ◌∷◌, map, drop, bytes_eq, if◌then◌else◌}
use Rattle.std.specs.List.{list_any}
use Rattle.formula_core.specs.Texts.{begins_with}
use Rattle.math_tokens.specs.declared.cutting.Token.{Token}
use Rattle.math_grammar.specs.Tokens.{Item, bytes_of, item_of}
use Rattle.component_tokens.specs.Pieces.{at_sign}
use Rattle.component_text.specs.declared.words.TheConstants.{STRUCTURAL}

abbrev pub is_structural : List ℕ → Bool
is_structural word = list_any (λ w. bytes_eq w.now word) STRUCTURAL

-- a structural word at its place, a label without its `@` at the place of that, or a token of formulas
pub data Mark : Type 0 where
  word : List ℕ → ℕ → Mark
  label : List ℕ → ℕ → Mark
  plain : Item → Mark

abbrev pub mark_by : List ℕ → ℕ → Item → Mark
mark_by text from item = if begins_with at_sign text then label (drop 1 text) from else (if is_structural text then word text from else plain item)

abbrev pub token_mark : List ℕ → Token → Mark
token_mark text token = mark_by (bytes_of text token) token.from (item_of text token)

abbrev pub marks_of : List ℕ → List Token → List Mark
marks_of text tokens = map (token_mark text) tokens

-- the tokens of a formula: all before the next structural word or label
abbrev pub token_run : List Mark → List Item
token_run [] = []
token_run (plain x ∷ s) = x ∷ token_run s
token_run (word w p ∷ s) = []
token_run (label l p ∷ s) = []

abbrev pub behind_run : List Mark → List Mark
behind_run [] = []
behind_run (plain x ∷ s) = behind_run s
behind_run (word w p ∷ s) = word w p ∷ s
behind_run (label l p ∷ s) = label l p ∷ s

-- tests on the next one
abbrev pub is_word_mark : List ℕ → Mark → Bool
is_word_mark w (word v p) = bytes_eq v w
is_word_mark w (label l p) = false
is_word_mark w (plain x) = false

abbrev pub is_at : (Mark → Bool) → List Mark → Bool
is_at test [] = false
is_at test (x ∷ rest) = test x
