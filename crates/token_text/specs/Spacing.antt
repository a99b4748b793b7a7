-- Texts that are written token by token.
use Rattle.std.specs.Prelude.{◌≡◌, ℕ, ◌++◌, ◌==◌, ◌||◌, Bool, true, List, [], ◌∷◌, length, map, Ok}
use Rattle.math_tokens.specs.declared.lexemes.Lexeme.{Lexeme}
use Rattle.math_tokens.specs.declared.cutting.TokenKind.{TokenKind}
use Rattle.math_tokens.specs.declared.cutting.Token.{Token}
use Rattle.math_tokens.specs.Lexemes.{IsLongest}
use Rattle.math_tokens.specs.SignForms.{sign_forms}
use Rattle.math_tokens.specs.Texts.{blank_length, meaning, Cut}
use Rattle.math_grammar.specs.declared.symbols.Symbol.{Symbol}
use Rattle.math_grammar.specs.Tokens.{Item, symbol_of, items_of}

-- space, tab, CR or LF
abbrev pub is_space : ℕ → Bool
is_space c = c == 32 || (c == 9 || (c == 13 || c == 10))

-- the bytes of the token are one of its class where the rest follows: none longer begins there
pub record FitsBefore (x : Item) (rest : List ℕ) : Type 0 where
  pub lexeme : Lexeme
  pub kind : TokenKind
  pub longest : IsLongest sign_forms (x.text ++ rest) (length x.text) lexeme
  pub no_blank : blank_length (x.text ++ rest) ≡ 0
  pub means : (at : ℕ) → meaning x.text lexeme at ≡ Ok kind
  pub class : symbol_of kind x.text ≡ x.symbol

-- the text is these tokens, with blanks between them where one is needed or liked
pub data Spaced : List Item → List ℕ → Type 0 where
  the_end : Spaced [] []
  a_blank : {tokens : List Item} {text : List ℕ} (c : ℕ) → is_space c ≡ true → Spaced tokens text → Spaced tokens (c ∷ text)
  a_token : {tokens : List Item} {text : List ℕ} (x : Item) → FitsBefore x text → Spaced tokens text → Spaced (x ∷ tokens) (x.text ++ text)

-- a token without its place
abbrev pub without_place : Item → Symbol × List ℕ
without_place x = (x.symbol, x.text)

-- the text is cut, with no fault, into these tokens, but for their places
abbrev pub IsCutInto : List ℕ → List Item → Type 0
IsCutInto text tokens = (us : List Token) × Cut sign_forms text 0 (Ok us) × (map without_place (items_of text us) ≡ map without_place tokens)
