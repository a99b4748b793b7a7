-- A walk over a component's text.
use Rattle.std.proofs.Common.{◌≡◌, ℕ, ◌+◌, ◌<◌, ◌≤◌, ◌^◌, ◌==◌, List, [], ◌∷◌, ◌++◌, length, drop, take, Bool, true, false, Some, None, Ok, Err, inl, inr, ap, sym, subst, arith, cond, length-drop, append_assoc, append-nil}
use Rattle.std.specs.Prelude.{Option, nat_le, nat_lt}
use Rattle.math_tokens.specs.declared.lexemes.Lexeme.{Lexeme}
use Rattle.math_tokens.specs.declared.lexemes.Lexeme.TheVariants as lexeme
use Rattle.math_tokens.specs.declared.cutting.TokenKind.{TokenKind}
use Rattle.math_tokens.specs.declared.cutting.TokenFault.{TokenFault}
use Rattle.math_tokens.specs.declared.cutting.TokenFault.TheVariants as wrong
use Rattle.math_tokens.specs.declared.cutting.Token.{Token}
use Rattle.math_tokens.specs.SignForms.{sign_forms}
use Rattle.math_tokens.specs.Lexemes.{value_of}
use Rattle.math_tokens.specs.Texts.{meaning, IsTokenAt}
use Rattle.math_tokens.proofs.Walk.{token_ends}
use Rattle.component_tokens.specs.declared.piece.CutFault.{CutFault}
use Rattle.component_tokens.specs.declared.piece.Piece.TheVariants as piece
use Rattle.component_tokens.specs.declared.gap.Gap.TheVariants as gap
use Rattle.component_tokens.specs.Gaps.{gap_in}
use Rattle.component_tokens.specs.Pieces.{at_sign, label_run, label_length, IsPieceAt, CutInto, past_token, at_fault}
use Rattle.formula_core.specs.Texts.{is_in_label}
use Rattle.component_tokens.proofs.Gaps.{gap_span, no_blank, prefix_within}

-- a label lies within the text
pub label_within : (xs : List ℕ) → 0 < label_length xs → 1 + label_length xs ≤ length xs
label_within [] h = absurd (omega arith)
label_within (c ∷ cs) h = go (c == at_sign) h
  where
    go : (b : Bool) → 0 < cond b (label_run cs) 0 → 1 + cond b (label_run cs) 0 ≤ length (c ∷ cs)
    go true h = omega (arith, prefix_within is_in_label cs)
    go false h = absurd (omega arith)

module _ (text : List ℕ) (at : ℕ) (inside : at < length text) where
  pub gap_ends : (n : ℕ) → IsPieceAt text at (piece.Gap n) → (0 < n) × (at + n ≤ length text)
  gap_ends n h = let span = gap_span (drop at text) n h in (span.0, omega (arith, span.1, length-drop at text))

  pub piece_ends : (t : Token) → IsPieceAt text at (piece.Token t) → (at < t.to) × (t.to ≤ length text)
  piece_ends t h = elim h.1 [
    | inl l ↦ (let to : t.to ≡ at + 1 + label_length (drop at text) = ap (λ u. u.to) l.1 in
        (omega (arith, to), omega (arith, to, label_within (drop at text) l.0, length-drop at text)))
    | inr k ↦ (omega (arith, k.1.3.some, k.1.5), token_ends sign_forms text at t (omega arith) k.1)
  ]

  -- where no gap and no label stands, a token or a fault does
  pub some_token : gap_in (drop at text) ≡ gap.Nothing → IsTokenAt sign_forms text at (Ok None) → ⊥
  some_token g h = elim h [ inl e ↦ omega (arith, e) | inr b ↦ omega (arith, b, no_blank (drop at text) g) ]

cond_err : (b : Bool) (k : TokenKind) (f : TokenFault) → cond b (Ok k) (Err f) ≡ Err wrong.OutOfMemory → f ≡ wrong.OutOfMemory
cond_err true k f e = cc
cond_err false k f e = cc

no_memory : (bytes : List ℕ) (l : Lexeme) (at : ℕ) → meaning bytes l at ≡ Err wrong.OutOfMemory → ⊥
no_memory bytes (lexeme.Sign k) at e = cc
no_memory bytes lexeme.Word at e = let f = cond_err (nat_le (length bytes) 64) _ (wrong.BadSign at) e in cc
no_memory bytes lexeme.Primed at e = let f = cond_err (nat_le (length bytes) 65) _ (wrong.BadSign at) e in cc
no_memory bytes lexeme.Number at e = let f = cond_err (nat_lt (value_of bytes) (2 ^ 127)) _ (wrong.NumberTooWide at) e in cc

-- a token needs no memory
pub needs_no_memory : (text : List ℕ) (at : ℕ) → IsTokenAt sign_forms text at (Err wrong.OutOfMemory) → ⊥
needs_no_memory text at h = elim h.2 [
  | inl none ↦ (let e = none.1 in cc)
  | inr c ↦ no_memory (take c.1 (drop at text)) c.0 at c.3
]

pub one_more : (text : List ℕ) (ts : List Token) (t : Token) (at : ℕ) → at < length text → IsPieceAt text at (piece.Token t) →
    ((us : List Token) (o : Option CutFault) → CutInto text at us o → CutInto text 0 (ts ++ us) o) →
    (us : List Token) (o : Option CutFault) → CutInto text t.to us o → CutInto text 0 ((ts ++ t ∷ []) ++ us) o
one_more text ts t at inside h so_far us o c = subst (λ vs. CutInto text 0 vs o) (sym (append_assoc ts (t ∷ []) us)) (so_far (t ∷ us) o (past_token t inside h c))

pub stops : (text : List ℕ) (ts : List Token) (f : CutFault) (at : ℕ) → at < length text → IsPieceAt text at (piece.Fault f) →
    ((us : List Token) (o : Option CutFault) → CutInto text at us o → CutInto text 0 (ts ++ us) o) → CutInto text 0 ts (Some f)
stops text ts f at inside h so_far = subst (λ vs. CutInto text 0 vs (Some f)) (append-nil ts) (so_far [] (Some f) (at_fault f inside h))
