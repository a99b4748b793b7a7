-- A text is cut in at most one way.
use Rattle.std.proofs.Common.{◌≡◌, ℕ, ◌+◌, List, drop, Some, Ok, Err, inl, inr, refl, ap, sym, ◌∙◌, arith}
use Rattle.std.specs.Prelude.{Option}
use Rattle.math_tokens.specs.declared.cutting.TokenFault.{TokenFault}
use Rattle.math_tokens.specs.declared.cutting.Token.{Token}
use Rattle.math_tokens.specs.SignForms.{sign_forms}
use Rattle.math_tokens.specs.Texts.{IsTokenAt}
use Rattle.math_tokens.proofs.OneWay.{one_token}
use Rattle.component_tokens.specs.declared.piece.CutFault.{CutFault}
use Rattle.component_tokens.specs.declared.piece.Piece.{Piece}
use Rattle.component_tokens.specs.declared.piece.Piece.TheVariants as piece
use Rattle.component_tokens.specs.Pieces.{label_length, IsLabelOrToken, IsPieceAt, CutInto, at_end, over_gap, past_token, at_fault}

module _ (text : List ℕ) (at : ℕ) where
  one_of_two : (t u : Token) → IsLabelOrToken text at t → IsLabelOrToken text at u → t ≡ u
  one_of_two t u (inl a) (inl b) = a.1 ∙ sym b.1
  one_of_two t u (inl a) (inr b) = absurd (omega (arith, a.0, b.0))
  one_of_two t u (inr a) (inl b) = absurd (omega (arith, a.0, b.0))
  one_of_two t u (inr a) (inr b) = let same = one_token sign_forms text at (Ok (Some t)) (Ok (Some u)) a.1 b.1 in cc

  token_or_fault : (t : Token) (wrong : TokenFault) → IsLabelOrToken text at t → label_length (drop at text) ≡ 0 → IsTokenAt sign_forms text at (Err wrong) → ⊥
  token_or_fault t wrong (inl a) e h = omega (arith, a.0, e)
  token_or_fault t wrong (inr a) e h = let same = one_token sign_forms text at (Ok (Some t)) (Err wrong) a.1 h in cc

  -- at a byte stands one piece
  pub one_piece : (p q : Piece) → IsPieceAt text at p → IsPieceAt text at q → p ≡ q
  one_piece (piece.Gap n) (piece.Gap m) a b = cc
  one_piece (piece.Gap n) (piece.Token u) a b = let e = b.0 in cc
  one_piece (piece.Gap n) (piece.Fault g) a b = elim b [ inl h ↦ (let e = h.0 in cc) | inr h ↦ (let e = h.0 in cc) ]
  one_piece (piece.Token t) (piece.Gap m) a b = let e = a.0 in cc
  one_piece (piece.Token t) (piece.Token u) a b = ap piece.Token (one_of_two t u a.1 b.1)
  one_piece (piece.Token t) (piece.Fault g) a b = elim b [ inl h ↦ (let e = h.0 in let d = a.0 in cc) | inr h ↦ absurd (token_or_fault t h.2 a.1 h.1 h.3) ]
  one_piece (piece.Fault f) (piece.Gap m) a b = elim a [ inl h ↦ (let e = h.0 in cc) | inr h ↦ (let e = h.0 in cc) ]
  one_piece (piece.Fault f) (piece.Token u) a b = elim a [ inl h ↦ (let e = h.0 in let d = b.0 in cc) | inr h ↦ absurd (token_or_fault u h.2 b.1 h.1 h.3) ]
  one_piece (piece.Fault f) (piece.Fault g) a b = elim a [
    | inl h ↦ elim b [ inl k ↦ ap piece.Fault (h.1 ∙ sym k.1) | inr k ↦ (let e = h.0 in let d = k.0 in cc) ]
    | inr h ↦ elim b [
      | inl k ↦ (let e = h.0 in let d = k.0 in cc)
      | inr k ↦ (let same = one_token sign_forms text at (Err h.2) (Err k.2) h.3 k.3 in let e = h.4 in let d = k.4 in cc)
    ]
  ]

pub one_cut : (text : List ℕ) (at : ℕ) (ts us : List Token) (o p : Option CutFault) → CutInto text at ts o → CutInto text at us p → (ts ≡ us) × (o ≡ p)
one_cut text at ts us o p (at_end e) (at_end f) = (refl, refl)
one_cut text at ts us o p (at_end e) (over_gap i b d) = absurd (omega (arith, e, i))
one_cut text at ts us o p (at_end e) (past_token u i b d) = absurd (omega (arith, e, i))
one_cut text at ts us o p (at_end e) (at_fault g i b) = absurd (omega (arith, e, i))
one_cut text at ts us o p (over_gap i a c) (at_end f) = absurd (omega (arith, f, i))
one_cut text at ts us o p (over_gap {n = n} i a c) (over_gap {n = m} j b d) =
    let same : n ≡ m = let s = one_piece text at (piece.Gap n) (piece.Gap m) a b in cc in
    one_cut text (at + n) ts us o p c (rw same d)
one_cut text at ts us o p (over_gap {n = n} i a c) (past_token u j b d) = let s = one_piece text at (piece.Gap n) (piece.Token u) a b in absurd cc
one_cut text at ts us o p (over_gap {n = n} i a c) (at_fault g j b) = let s = one_piece text at (piece.Gap n) (piece.Fault g) a b in absurd cc
one_cut text at ts us o p (past_token t i a c) (at_end f) = absurd (omega (arith, f, i))
one_cut text at ts us o p (past_token t i a c) (over_gap {n = m} j b d) = let s = one_piece text at (piece.Token t) (piece.Gap m) a b in absurd cc
one_cut text at ts us o p (past_token {ts = rest} t i a c) (past_token {ts = more} u j b d) =
    let same : t ≡ u = let s = one_piece text at (piece.Token t) (piece.Token u) a b in cc in
    let later = one_cut text t.to rest more o p c (rw same d) in
    let tails = later.0 in
    (cc, later.1)
one_cut text at ts us o p (past_token t i a c) (at_fault g j b) = let s = one_piece text at (piece.Token t) (piece.Fault g) a b in absurd cc
one_cut text at ts us o p (at_fault f i a) (at_end e) = absurd (omega (arith, e, i))
one_cut text at ts us o p (at_fault f i a) (over_gap {n = m} j b d) = let s = one_piece text at (piece.Fault f) (piece.Gap m) a b in absurd cc
one_cut text at ts us o p (at_fault f i a) (past_token u j b d) = let s = one_piece text at (piece.Fault f) (piece.Token u) a b in absurd cc
one_cut text at ts us o p (at_fault f i a) (at_fault g j b) = (refl, (let s = one_piece text at (piece.Fault f) (piece.Fault g) a b in cc))
