-- A walk over the text.
use Rattle.std.proofs.Common.{◌≡◌, ℕ, ◌+◌, ◌<◌, ◌≤◌, List, [], ◌∷◌, ◌++◌, length, drop, Some, None, Result, Ok, Err, inl, inr, ap, sym, subst, arith, length-drop, append_assoc, take, ◌-◌, ◌∙◌}
use Rattle.std.proofs.Math.Seq.{take-length}
use Rattle.math_tokens.specs.declared.cutting.TokenFault.{TokenFault}
use Rattle.math_tokens.specs.declared.cutting.TokenFault.TheVariants as fault
use Rattle.math_tokens.specs.declared.cutting.Token.{Token}
use Rattle.math_tokens.specs.Lexemes.{Forms}
use Rattle.math_tokens.specs.Texts.{blank_length, IsTokenAt, Cut, past_token, fault_later, fault_here, Cuts}

-- tokens before the others, if there is no fault
abbrev pub behind : List Token → Result (List Token) TokenFault → Result (List Token) TokenFault
behind ts (Ok us) = Ok (ts ++ us)
behind ts (Err f) = Err f

module _ (forms : Forms) (text : List ℕ) where
  pub blank_there : (at : ℕ) → at < length text → IsTokenAt forms text at (Ok None) → 0 < blank_length (drop at text)
  blank_there at inside h = elim h [ inl e ↦ absurd (omega arith) | inr b ↦ b ]

  pub token_ends : (at : ℕ) (t : Token) → at ≤ length text → IsTokenAt forms text at (Ok (Some t)) → t.to ≤ length text
  token_ends at t short h = omega (arith, h.3.within, h.5, length-drop at text)

  pub one_more : (ts : List Token) (t : Token) (at : ℕ) → IsTokenAt forms text at (Ok (Some t)) →
      ((o : Result (List Token) TokenFault) → Cut forms text at o → Cut forms text 0 (behind ts o)) →
      (o : Result (List Token) TokenFault) → Cut forms text t.to o → Cut forms text 0 (behind (ts ++ t ∷ []) o)
  one_more ts t at h so_far (Ok us) c =
      subst (λ vs. Cut forms text 0 (Ok vs)) (sym (append_assoc ts (t ∷ []) us)) (so_far (Ok (t ∷ us)) (past_token t h c))
  one_more ts t at h so_far (Err f) c = so_far (Err f) (fault_later t h c)

  pub blank_span : (at r : ℕ) (s : List ℕ) → s ≡ text → at ≤ length text → r ≡ blank_length (take (length s - at) (drop at s)) →
      r ≤ length (take (length s - at) (drop at s)) → (r ≡ blank_length (drop at text)) × (at + r ≤ length text)
  blank_span at r s same inside value short =
      let len : length (drop at s) ≡ length s - at = length-drop at s in
      let whole : take (length s - at) (drop at s) ≡ drop at s = ap (λ n. take n (drop at s)) (sym len) ∙ take-length (drop at s) in
      (value ∙ ap blank_length whole ∙ ap (λ t. blank_length (drop at t)) same, omega (arith, short, ap length whole, len, ap length same))

  pub fault_cuts : (ts : List Token) (at : ℕ) (f : TokenFault) → IsTokenAt forms text at (Err f) →
      ((o : Result (List Token) TokenFault) → Cut forms text at o → Cut forms text 0 (behind ts o)) → Cuts forms text (Err f)
  fault_cuts ts at (fault.BadSign p) h so_far = so_far (Err (fault.BadSign p)) (fault_here h)
  fault_cuts ts at (fault.NumberTooWide p) h so_far = so_far (Err (fault.NumberTooWide p)) (fault_here h)
  fault_cuts ts at fault.OutOfMemory h so_far = tt
