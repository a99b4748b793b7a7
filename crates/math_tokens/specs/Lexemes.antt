-- Tokens, by the bytes that spell them.
use Rattle.std.specs.Prelude.{◌≡◌, ℕ, ◌+◌, ◌-◌, ◌*◌, ◌<◌, ◌≤◌, ◌++◌, ◌&&◌, Bool, true, false, List, [], ◌∷◌, length, take, Option, Some, None, cond, bytes_eq}
use Rattle.std.specs.Char.{is_ascii_digit}
use Rattle.std.specs.List.{list_all}
use Rattle.formula_core.specs.Names.{starts_word, is_in_word}
use Rattle.math_tokens.specs.declared.lexemes.Lexeme.{Lexeme}
use Rattle.math_tokens.specs.declared.lexemes.Lexeme.TheVariants.{Sign, Word, Primed, Number}

-- a form and its sign's number
abbrev pub Forms : Type 0
Forms = List (List ℕ × ℕ)

-- the number of the sign that the bytes are a form of
abbrev pub sign_in : Forms → List ℕ → Option ℕ
sign_in [] bytes = None
sign_in (e ∷ forms) bytes = cond (bytes_eq e.0 bytes) (Some e.1) (sign_in forms bytes)

abbrev pub is_digit : ℕ → Bool
is_digit c = is_ascii_digit c

-- a letter or an underscore, and then letters, digits and underscores
abbrev pub is_token_word : List ℕ → Bool
is_token_word [] = false
is_token_word (c ∷ cs) = starts_word c && list_all is_in_word cs

abbrev pub is_digits : List ℕ → Bool
is_digits [] = false
is_digits (c ∷ cs) = is_digit c && list_all is_digit cs

-- the bytes spell the token
pub data IsLexeme (forms : Forms) : List ℕ → Lexeme → Type 0 where
  a_sign : {bytes : List ℕ} {k : ℕ} → sign_in forms bytes ≡ Some k → IsLexeme forms bytes (Sign k)
  a_word : {bytes : List ℕ} → sign_in forms bytes ≡ None → is_token_word bytes ≡ true → IsLexeme forms bytes Word
  a_primed : {bytes : List ℕ} (word : List ℕ) → sign_in forms bytes ≡ None → is_token_word word ≡ true → bytes ≡ word ++ 39 ∷ [] → IsLexeme forms bytes Primed
  a_number : {bytes : List ℕ} → sign_in forms bytes ≡ None → is_digits bytes ≡ true → IsLexeme forms bytes Number

-- the longest token with which the text begins has n bytes
pub record IsLongest (forms : Forms) (text : List ℕ) (n : ℕ) (l : Lexeme) : Type 0 where
  pub some : 0 < n
  pub within : n ≤ length text
  pub spells : IsLexeme forms (take n text) l
  pub longest : (m : ℕ) → n < m → m ≤ length text → (k : Lexeme) → IsLexeme forms (take m text) k → ⊥

-- the value of digits that stand behind others of the value n
abbrev pub value_after : ℕ → List ℕ → ℕ
value_after n [] = n
value_after n (c ∷ cs) = value_after (10 * n + (c - 48)) cs

abbrev pub value_of : List ℕ → ℕ
value_of digits = value_after 0 digits
