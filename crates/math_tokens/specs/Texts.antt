-- The tokens of a text.
use Rattle.std.specs.Prelude.{◌≡◌, ℕ, ◌+◌, ◌^◌, ◌<◌, ◌≤◌, ◌==◌, ◌||◌, List, [], ◌∷◌, length, take, drop, Option, Some, None, Result, Ok, Err, ◌⊎◌, cond, nat_le, nat_lt, pos, Vec}
use Rattle.std.specs.declared.alloc.Global.{Global}
use Rattle.math_tokens.specs.declared.lexemes.Lexeme.{Lexeme}
use Rattle.math_tokens.specs.declared.lexemes.Lexeme.TheVariants as lexeme
use Rattle.math_tokens.specs.declared.cutting.TokenKind.{TokenKind}
use Rattle.math_tokens.specs.declared.cutting.TokenKind.TheVariants as kind
use Rattle.math_tokens.specs.declared.cutting.TokenFault.{TokenFault}
use Rattle.math_tokens.specs.declared.cutting.TokenFault.TheVariants as fault
use Rattle.math_tokens.specs.declared.cutting.Token.{Token}
use Rattle.math_tokens.specs.Lexemes.{Forms, IsLexeme, IsLongest, value_of}

-- the second byte of U+00A0
abbrev pub second_length : List ℕ → ℕ
second_length [] = 0
second_length (c ∷ cs) = cond (c == 160) 2 0

-- how many bytes a blank at the front has: space, tab, CR, LF or U+00A0
abbrev pub blank_length : List ℕ → ℕ
blank_length [] = 0
blank_length (c ∷ cs) = cond (c == 32 || (c == 9 || (c == 13 || c == 10))) 1 (cond (c == 194) (second_length cs) 0)

-- what a token is, by the bytes that spell it, or what is wrong with it
abbrev pub meaning : List ℕ → Lexeme → ℕ → Result TokenKind TokenFault
meaning bytes (lexeme.Sign k) at = Ok (kind.Sign k)
meaning bytes lexeme.Word at = cond (nat_le (length bytes) 64) (Ok kind.Word) (Err (fault.BadSign at))
meaning bytes lexeme.Primed at = cond (nat_le (length bytes) 65) (Ok kind.Primed) (Err (fault.BadSign at))
meaning bytes lexeme.Number at = cond (nat_lt (value_of bytes) (2 ^ 127)) (Ok (kind.Number (pos (value_of bytes)))) (Err (fault.NumberTooWide at))

-- no token begins with these bytes
abbrev pub HasNoLexeme : Forms → List ℕ → Type 0
HasNoLexeme forms text = (m : ℕ) → 0 < m → m ≤ length text → (k : Lexeme) → IsLexeme forms (take m text) k → ⊥

-- the longest token that begins at a byte, none at a blank or the end, or what is wrong there
abbrev pub IsTokenAt : Forms → List ℕ → ℕ → Result (Option Token) TokenFault → Type 0
IsTokenAt forms text at (Ok None) = (at ≡ length text) ⊎ (0 < blank_length (drop at text))
IsTokenAt forms text at (Ok (Some t)) =
    (l : Lexeme) × (n : ℕ) × (blank_length (drop at text) ≡ 0) × IsLongest forms (drop at text) n l
    × (t.from ≡ at) × (t.to ≡ at + n) × (meaning (take n (drop at text)) l at ≡ Ok t.kind)
IsTokenAt forms text at (Err f) =
    (at < length text) × (blank_length (drop at text) ≡ 0)
    × ((HasNoLexeme forms (drop at text) × (f ≡ fault.BadSign at))
    ⊎ ((l : Lexeme) × (n : ℕ) × IsLongest forms (drop at text) n l × (meaning (take n (drop at text)) l at ≡ Err f)))

-- what comes of the text from a byte on: its tokens, or the first fault
pub data Cut (forms : Forms) (text : List ℕ) : ℕ → Result (List Token) TokenFault → Type 0 where
  at_end : {at : ℕ} → at ≡ length text → Cut forms text at (Ok [])
  over_blank : {at next : ℕ} {o : Result (List Token) TokenFault} →
      0 < blank_length (drop at text) → next ≡ at + blank_length (drop at text) → Cut forms text next o → Cut forms text at o
  past_token : {at : ℕ} {ts : List Token} (t : Token) →
      IsTokenAt forms text at (Ok (Some t)) → Cut forms text t.to (Ok ts) → Cut forms text at (Ok (t ∷ ts))
  fault_later : {at : ℕ} {f : TokenFault} (t : Token) →
      IsTokenAt forms text at (Ok (Some t)) → Cut forms text t.to (Err f) → Cut forms text at (Err f)
  fault_here : {at : ℕ} {f : TokenFault} → IsTokenAt forms text at (Err f) → Cut forms text at (Err f)

-- the answer is what comes of the text, unless memory ran out
abbrev pub Cuts : Forms → List ℕ → Result (Vec Token Global) TokenFault → Type 0
Cuts forms text (Ok ts) = Cut forms text 0 (Ok ts.items)
Cuts forms text (Err fault.OutOfMemory) = Unit {0}
Cuts forms text (Err (fault.BadSign p)) = Cut forms text 0 (Err (fault.BadSign p))
Cuts forms text (Err (fault.NumberTooWide p)) = Cut forms text 0 (Err (fault.NumberTooWide p))
