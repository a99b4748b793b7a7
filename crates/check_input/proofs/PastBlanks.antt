-- The blanks in front of a text, one after the other.
use Rattle.std.proofs.Common.{◌≡◌, refl, ℕ, Bool, true, false, ◌&&◌, ◌||◌, ◌==◌, List, [], ◌∷◌, drop, cond, arith}
use Rattle.math_tokens.specs.Texts.{blank_length}
use Rattle.check_input.specs.Headings.{past_blanks}
use Rattle.formula_core.specs.Texts.{is_ascii_blank}

-- the blanks of one byte, as they are tested
abbrev blank_byte : ℕ → Bool
blank_byte c = c == 32 || (c == 9 || (c == 13 || c == 10))

four : (a b c d : Bool) → (((a || b) || c) || d) ≡ (a || (b || (c || d)))
four true b c d = refl
four false true c d = refl
four false false true d = refl
four false false false d = refl

same_byte : (c : ℕ) → is_ascii_blank c ≡ blank_byte c
same_byte c = four (c == 32) (c == 9) (c == 13) (c == 10)

past_last : (c : ℕ) (b w : Bool) → is_ascii_blank c ≡ b → past_blanks (drop (cond b 1 (cond w 0 0)) (c ∷ [])) ≡ past_blanks (c ∷ [])
past_last c true w e = rw e refl
past_last c false true e = refl
past_last c false false e = refl

past_wide : (c d : ℕ) (rest : List ℕ) (w v : Bool) → is_ascii_blank c ≡ false → (c == 194) ≡ w → (d == 160) ≡ v →
    past_blanks (drop (cond w (cond v 2 0) 0) (c ∷ d ∷ rest)) ≡ cond (w && v) (past_blanks rest) (c ∷ d ∷ rest)
past_wide c d rest true true e f g = refl
past_wide c d rest true false e f g = rw (e, f, g) refl
past_wide c d rest false v e f g = rw (e, f) refl

past_first : (c d : ℕ) (rest : List ℕ) (b : Bool) → is_ascii_blank c ≡ b →
    past_blanks (drop (cond b 1 (cond (c == 194) (cond (d == 160) 2 0) 0)) (c ∷ d ∷ rest)) ≡ past_blanks (c ∷ d ∷ rest)
past_first c d rest true e = rw e refl
past_first c d rest false e = rw e (past_wide c d rest (c == 194) (d == 160) e refl refl)

pub past_one : (text : List ℕ) → past_blanks (drop (blank_length text) text) ≡ past_blanks text
past_one [] = refl
past_one (c ∷ []) = past_last c (blank_byte c) (c == 194) (same_byte c)
past_one (c ∷ d ∷ rest) = past_first c d rest (blank_byte c) (same_byte c)

at_last : (c : ℕ) (b w : Bool) → is_ascii_blank c ≡ b → ◌≡◌ {A = ℕ} (cond b 1 (cond w 0 0)) 0 → past_blanks (c ∷ []) ≡ c ∷ []
at_last c true w e h = absurd (omega arith)
at_last c false w e h = rw e refl

at_first : (c d : ℕ) (rest : List ℕ) (b w v : Bool) → is_ascii_blank c ≡ b → (c == 194) ≡ w → (d == 160) ≡ v → ◌≡◌ {A = ℕ} (cond b 1 (cond w (cond v 2 0) 0)) 0 →
    past_blanks (c ∷ d ∷ rest) ≡ c ∷ d ∷ rest
at_first c d rest true w v e f g h = absurd (omega arith)
at_first c d rest false true true e f g h = absurd (omega arith)
at_first c d rest false true false e f g h = rw (e, f, g) refl
at_first c d rest false false v e f g h = rw (e, f) refl

pub past_none : (text : List ℕ) → blank_length text ≡ 0 → past_blanks text ≡ text
past_none [] h = refl
past_none (c ∷ []) h = at_last c (blank_byte c) (c == 194) (same_byte c) h
past_none (c ∷ d ∷ rest) h = at_first c d rest (blank_byte c) (c == 194) (d == 160) (same_byte c) refl refl h
