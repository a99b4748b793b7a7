-- What the tokens of a text are to the grammar.
use Rattle.std.specs.Prelude.{ℕ, ◌-◌, List, [], ◌∷◌, map, take, drop, Option, Some, None, cond, bytes_eq, slice_get}
use Rattle.math_tokens.specs.declared.cutting.TokenKind.{TokenKind}
use Rattle.math_tokens.specs.declared.cutting.TokenKind.TheVariants as kind
use Rattle.math_tokens.specs.declared.cutting.Token.{Token}
use Rattle.math_grammar.specs.declared.symbols.Symbol.{Symbol}
use Rattle.math_grammar.specs.declared.symbols.Symbol.TheVariants as sym
use Rattle.math_grammar.specs.declared.symbols.TheConstants.{SYMBOLS}
use Rattle.math_grammar.specs.declared.words.TheConstants.{WORDS}

abbrev pub word_in : List (List ℕ × Symbol) → List ℕ → Option Symbol
word_in [] word = None
word_in (e ∷ table) word = cond (bytes_eq e.0 word) (Some e.1) (word_in table word)

-- the words with a meaning of their own
abbrev pub words : List (List ℕ × Symbol)
words = map (λ e. (e.0.now, e.1)) WORDS

abbrev pub or_word : Option Symbol → Symbol
or_word (Some symbol) = symbol
or_word None = sym.Word

abbrev pub sign_at : List Symbol → ℕ → Symbol
sign_at symbols at = or_word (slice_get symbols at)

-- the class of a token, by its kind and its bytes
abbrev pub symbol_of : TokenKind → List ℕ → Symbol
symbol_of (kind.Sign number) text = sign_at SYMBOLS number
symbol_of (kind.Number value) text = sym.Number value
symbol_of kind.Word text = or_word (word_in words text)
symbol_of kind.Primed text = sym.Word

-- a token of a text as the grammar sees it: its class, its first byte, and its bytes
pub record Item : Type 0 where
  pub symbol : Symbol
  pub from : ℕ
  pub text : List ℕ

abbrev pub bytes_of : List ℕ → Token → List ℕ
bytes_of text token = take (token.to - token.from) (drop token.from text)

abbrev pub item_of : List ℕ → Token → Item
item_of text token = record { symbol = symbol_of token.kind (bytes_of text token); from = token.from; text = bytes_of text token }

abbrev pub items_of : List ℕ → List Token → List Item
items_of text tokens = map (item_of text) tokens
