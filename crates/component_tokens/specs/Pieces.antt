-- What stands at the bytes of a component's text, and how the text is cut.
use Rattle.std.specs.Prelude.{◌≡◌, ℕ, ◌+◌, ◌<◌, ◌==◌, min, List, [], ◌∷◌, length, drop, Option, Some, None, Ok, Err, ◌⊎◌, if◌then◌else◌}
use Rattle.std.specs.List.{prefix_len}
use Rattle.formula_core.specs.Texts.{is_in_label}
use Rattle.math_tokens.specs.declared.cutting.TokenKind.TheVariants as kind
use Rattle.math_tokens.specs.declared.cutting.TokenFault.{TokenFault}
use Rattle.math_tokens.specs.declared.cutting.TokenFault.TheVariants as wrong
use Rattle.math_tokens.specs.declared.cutting.Token.{Token}
use Rattle.math_tokens.specs.SignForms.{sign_forms}
use Rattle.math_tokens.specs.Texts.{IsTokenAt}
use Rattle.component_tokens.specs.declared.gap.Gap.TheVariants as gap
use Rattle.component_tokens.specs.declared.piece.CutFault.{CutFault}
use Rattle.component_tokens.specs.declared.piece.CutFault.TheVariants as fault
use Rattle.component_tokens.specs.declared.piece.Piece.{Piece}
use Rattle.component_tokens.specs.declared.piece.Piece.TheVariants as piece
use Rattle.component_tokens.specs.Gaps.{gap_in}

-- the byte of `@`
abbrev pub at_sign : ℕ
at_sign = 64

-- as far as the characters of labels reach, but no further than 64
abbrev pub label_run : List ℕ → ℕ
label_run text = min (prefix_len is_in_label text) 64

-- how many characters a label has that begins the text with its `@`, 0 where none does
abbrev pub label_length : List ℕ → ℕ
label_length [] = 0
label_length (c ∷ cs) = if c == at_sign then label_run cs else 0

-- a label is a word that begins with `@`
abbrev pub label_token : ℕ → ℕ → Token
label_token at n = record { kind = kind.Word; from = at; to = at + 1 + n }

-- the fault of a text, by that of a token: a token needs no memory
abbrev pub cut_fault : TokenFault → Option CutFault
cut_fault (wrong.BadSign p) = Some (fault.BadSign p)
cut_fault (wrong.NumberTooWide p) = Some (fault.NumberTooWide p)
cut_fault wrong.OutOfMemory = None

-- a label, or the longest token of formulas
abbrev pub IsLabelOrToken : List ℕ → ℕ → Token → Type 0
IsLabelOrToken text at t =
    ((0 < label_length (drop at text)) × (t ≡ label_token at (label_length (drop at text))))
    ⊎ ((label_length (drop at text) ≡ 0) × IsTokenAt sign_forms text at (Ok (Some t)))

-- what stands at a byte: blanks and comments go before labels and tokens
abbrev pub IsPieceAt : List ℕ → ℕ → Piece → Type 0
IsPieceAt text at (piece.Gap n) = gap_in (drop at text) ≡ gap.Bytes n
IsPieceAt text at (piece.Token t) = (gap_in (drop at text) ≡ gap.Nothing) × IsLabelOrToken text at t
IsPieceAt text at (piece.Fault f) =
    ((gap_in (drop at text) ≡ gap.OpenComment) × (f ≡ fault.CommentNotClosed at))
    ⊎ ((gap_in (drop at text) ≡ gap.Nothing) × (label_length (drop at text) ≡ 0)
    × (wrong : TokenFault) × IsTokenAt sign_forms text at (Err wrong) × (cut_fault wrong ≡ Some f))

-- The tokens of a text from a byte on, up to its end or to the first fault.
pub data CutInto (text : List ℕ) : ℕ → List Token → Option CutFault → Type 0 where
  at_end : {at : ℕ} → at ≡ length text → CutInto text at [] None
  over_gap : {at n : ℕ} {ts : List Token} {o : Option CutFault} →
      at < length text → IsPieceAt text at (piece.Gap n) → CutInto text (at + n) ts o → CutInto text at ts o
  past_token : {at : ℕ} {ts : List Token} {o : Option CutFault} (t : Token) →
      at < length text → IsPieceAt text at (piece.Token t) → CutInto text t.to ts o → CutInto text at (t ∷ ts) o
  at_fault : {at : ℕ} (f : CutFault) → at < length text → IsPieceAt text at (piece.Fault f) → CutInto text at [] (Some f)
