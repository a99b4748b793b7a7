-- Blanks, one after the other, and words before them.
use Rattle.std.proofs.Common.{◌≡◌, refl, sym, ap, ◌∙◌, ℕ, ◌+◌, zero, suc, ◌<◌, Bool, true, false, ◌&&◌, ◌||◌, ◌==◌, List, [], ◌∷◌, length, drop, cond, arith, ne_eqb}
use Rattle.std.specs.Prelude.{nat_lt, bytes_eq, Some, None}
use Rattle.formula_core.specs.Texts.{is_ascii_blank, begins_with, begins_with_blank}
use Rattle.math_tokens.specs.Texts.{blank_length}
use Rattle.session_lines.specs.Commands.{only_word}
use Rattle.session_lines.specs.Words.{after_blanks, length_to_blank, first_word, behind_word}

-- the blanks of one byte, as they are tested
abbrev blank_byte : ℕ → Bool
blank_byte c = c == 32 || (c == 9 || (c == 13 || c == 10))

four : (a b c d : Bool) → (((a || b) || c) || d) ≡ (a || (b || (c || d)))
four true b c d = refl
four false true c d = refl
four false false true d = refl
four false false false d = refl

same_byte : (c : ℕ) → is_ascii_blank c ≡ blank_byte c
same_byte c = four (c == 32) (c == 9) (c == 13) (c == 10)

past_last : (c : ℕ) (b w : Bool) → is_ascii_blank c ≡ b → after_blanks (drop (cond b 1 (cond w 0 0)) (c ∷ [])) ≡ after_blanks (c ∷ [])
past_last c true w e = rw e refl
past_last c false true e = refl
past_last c false false e = refl

past_wide : (c d : ℕ) (rest : List ℕ) (w v : Bool) → is_ascii_blank c ≡ false → (c == 194) ≡ w → (d == 160) ≡ v →
    after_blanks (drop (cond w (cond v 2 0) 0) (c ∷ d ∷ rest)) ≡ cond (w && v) (after_blanks rest) (c ∷ d ∷ rest)
past_wide c d rest true true e f g = refl
past_wide c d rest true false e f g = rw (e, f, g) refl
past_wide c d rest false v e f g = rw (e, f) refl

past_first : (c d : ℕ) (rest : List ℕ) (b : Bool) → is_ascii_blank c ≡ b →
    after_blanks (drop (cond b 1 (cond (c == 194) (cond (d == 160) 2 0) 0)) (c ∷ d ∷ rest)) ≡ after_blanks (c ∷ d ∷ rest)
past_first c d rest true e = rw e refl
past_first c d rest false e = rw e (past_wide c d rest (c == 194) (d == 160) e refl refl)

-- behind the first blank
pub past_one : (line : List ℕ) → after_blanks (drop (blank_length line) line) ≡ after_blanks line
past_one [] = refl
past_one (c ∷ []) = past_last c (blank_byte c) (c == 194) (same_byte c)
past_one (c ∷ d ∷ rest) = past_first c d rest (blank_byte c) (same_byte c)

at_last : (c : ℕ) (b w : Bool) → is_ascii_blank c ≡ b → ◌≡◌ {A = ℕ} (cond b 1 (cond w 0 0)) 0 → after_blanks (c ∷ []) ≡ c ∷ []
at_last c true w e h = absurd (omega arith)
at_last c false w e h = rw e refl

at_first : (c d : ℕ) (rest : List ℕ) (b w v : Bool) → is_ascii_blank c ≡ b → (c == 194) ≡ w → (d == 160) ≡ v → ◌≡◌ {A = ℕ} (cond b 1 (cond w (cond v 2 0) 0)) 0 →
    after_blanks (c ∷ d ∷ rest) ≡ c ∷ d ∷ rest
at_first c d rest true w v e f g h = absurd (omega arith)
at_first c d rest false true true e f g h = absurd (omega arith)
at_first c d rest false true false e f g h = rw (e, f, g) refl
at_first c d rest false false v e f g h = rw (e, f) refl

-- no blank is in front
pub past_none : (line : List ℕ) → blank_length line ≡ 0 → after_blanks line ≡ line
past_none [] h = refl
past_none (c ∷ []) h = at_last c (blank_byte c) (c == 194) (same_byte c) h
past_none (c ∷ d ∷ rest) h = at_first c d rest (blank_byte c) (c == 194) (d == 160) (same_byte c) refl refl h

-- a blank is in front where its bytes are some
some_wide : (b w v : Bool) → (b || (w && v)) ≡ nat_lt 0 (cond b 1 (cond w (cond v 2 0) 0))
some_wide true w v = refl
some_wide false true true = refl
some_wide false true false = refl
some_wide false false v = refl

some_last : (b w : Bool) → (b || (w && false)) ≡ nat_lt 0 (cond b 1 (cond w 0 0))
some_last true w = refl
some_last false true = refl
some_last false false = refl

pub some_blank : (line : List ℕ) → begins_with_blank line ≡ nat_lt 0 (blank_length line)
some_blank [] = refl
some_blank (c ∷ []) = ap (λ b. b || (c == 194 && false)) (same_byte c) ∙ some_last (blank_byte c) (c == 194)
some_blank (c ∷ d ∷ rest) = ap (λ b. b || (c == 194 && d == 160)) (same_byte c) ∙ some_wide (blank_byte c) (c == 194) (d == 160)

behind_one : (line : List ℕ) (at : ℕ) → at < length line → begins_with_blank (drop at line) ≡ false → length_to_blank (drop at line) ≡ 1 + length_to_blank (drop (at + 1) line)
behind_one [] at less other = absurd (omega (arith, less))
behind_one (c ∷ rest) zero less other = ap (λ b. cond b 0 (1 + length_to_blank rest)) other
behind_one (c ∷ rest) (suc at) less other =
    let e : suc at + 1 ≡ suc (at + 1) = omega arith in
    behind_one rest at (omega (arith, less)) other ∙ ap (λ n. 1 + length_to_blank (drop n (c ∷ rest))) (sym e)

-- where no blank is, none begins before the next byte
pub one_behind : (line : List ℕ) (at : ℕ) → at < length line → begins_with_blank (drop at line) ≡ false → at + length_to_blank (drop at line) ≡ length_to_blank line →
    at + 1 + length_to_blank (drop (at + 1) line) ≡ length_to_blank line
one_behind line at less other so_far = omega (arith, behind_one line at less other, so_far)

-- what is empty, and what isn't
pub not_empty : (xs ys : List ℕ) (b : Bool) → xs ≡ ys → b ≡ (length xs == 0) → b ≡ false → bytes_eq ys [] ≡ false
not_empty [] ys b same is no_more = let e : true ≡ false = sym is ∙ no_more in cc
not_empty (c ∷ xs) ys b same is no_more = ap (λ l. bytes_eq l []) (sym same)

pub no_word : (line : List ℕ) (b : Bool) → b ≡ (length line == 0) → b ≡ true → only_word line ≡ None
no_word [] b is some = refl
no_word (c ∷ line) b is some =
    let no : (length (c ∷ line) == 0) ≡ false = ne_eqb (length (c ∷ line)) 0 (λ e. omega (arith, e)) in
    let e : false ≡ true = sym no ∙ sym is ∙ some in cc

-- more words follow the first
pub more_words : (line rest : List ℕ) (b : Bool) → rest ≡ after_blanks (behind_word line) → b ≡ (length rest == 0) → b ≡ false → only_word line ≡ None
more_words [] rest b same is other = refl
more_words (c ∷ line) rest b same is other =
    ap (λ t. cond t (Some (first_word (c ∷ line))) None) (not_empty rest (after_blanks (behind_word (c ∷ line))) b same is other)
