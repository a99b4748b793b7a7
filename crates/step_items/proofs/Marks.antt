-- Parts between double semicolons.
use Rattle.std.proofs.Common.{◌≡◌, ℕ, ◌+◌, zero, suc, ◌<◌, ◌≤◌, ◌==◌, ◌&&◌, Bool, true, false, cond, List, [], ◌∷◌, length, take, drop, refl, sym, ap, ◌∙◌, subst, arith}
use Rattle.step_items.specs.Paths.{onto_first, all_of}
use Rattle.step_items.specs.Items.{item_in, between_marks, written_items}
use Rattle.step_items.specs.Private.{is_marked, before_mark}

marks_by : (c d n : ℕ) (rest : List ℕ) (t : Bool) → (n < length (d ∷ rest) → between_marks (d ∷ rest) ≡ take n (d ∷ rest) ∷ between_marks (drop (n + 2) (d ∷ rest))) →
    cond t 0 (1 + n) < length (c ∷ d ∷ rest) →
    cond t ([] ∷ between_marks rest) (onto_first c (between_marks (d ∷ rest)))
    ≡ take (cond t 0 (1 + n)) (c ∷ d ∷ rest) ∷ between_marks (drop (cond t 0 (1 + n) + 2) (c ∷ d ∷ rest))
marks_by c d n rest true known less = refl
marks_by c d n rest false known less =
    let e : 1 + n ≡ suc n = omega arith in
    let f : 1 + n + 2 ≡ suc (n + 2) = omega arith in
    ap (onto_first c) (known (omega (arith, less))) ∙ ap (λ m. take m (c ∷ d ∷ rest) ∷ between_marks (drop (n + 2) (d ∷ rest))) (sym e)
    ∙ ap (λ m. take (1 + n) (c ∷ d ∷ rest) ∷ between_marks (drop m (c ∷ d ∷ rest))) (sym f)

marks : (bytes : List ℕ) → before_mark bytes < length bytes → between_marks bytes ≡ take (before_mark bytes) bytes ∷ between_marks (drop (before_mark bytes + 2) bytes)
marks [] less = absurd (omega (arith, less))
marks (c ∷ []) less = absurd (omega (arith, less))
marks (c ∷ d ∷ rest) less = marks_by c d (before_mark (d ∷ rest)) rest (c == 59 && d == 59) (marks (d ∷ rest)) less

-- the part before the first double semicolon
pub part_before : (bytes : List ℕ) (at : ℕ) → at ≡ before_mark bytes → at < length bytes → between_marks bytes ≡ take at bytes ∷ between_marks (drop (at + 2) bytes)
part_before bytes at is less = subst (λ n. between_marks bytes ≡ take n bytes ∷ between_marks (drop (n + 2) bytes)) (sym is) (marks bytes (subst (λ n. n < length bytes) is less))

none_by : (c d n : ℕ) (rest : List ℕ) (t : Bool) → (length (d ∷ rest) ≤ n → between_marks (d ∷ rest) ≡ (d ∷ rest) ∷ []) →
    length (c ∷ d ∷ rest) ≤ cond t 0 (1 + n) → cond t ([] ∷ between_marks rest) (onto_first c (between_marks (d ∷ rest))) ≡ (c ∷ d ∷ rest) ∷ []
none_by c d n rest true known more = absurd (omega (arith, more))
none_by c d n rest false known more = ap (onto_first c) (known (omega (arith, more)))

no_marks : (bytes : List ℕ) → length bytes ≤ before_mark bytes → between_marks bytes ≡ bytes ∷ []
no_marks [] more = refl
no_marks (c ∷ []) more = refl
no_marks (c ∷ d ∷ rest) more = none_by c d (before_mark (d ∷ rest)) rest (c == 59 && d == 59) (no_marks (d ∷ rest)) more

-- bytes without double semicolons
pub part_alone : (bytes : List ℕ) (at : ℕ) → at ≡ before_mark bytes → length bytes ≤ at → between_marks bytes ≡ bytes ∷ []
part_alone bytes at is more = no_marks bytes (subst (λ n. length bytes ≤ n) is more)

-- a mark has two bytes
room_by : (c d n : ℕ) (rest : List ℕ) (t : Bool) → (n < length (d ∷ rest) → n + 2 ≤ length (d ∷ rest)) → cond t 0 (1 + n) < length (c ∷ d ∷ rest) → cond t 0 (1 + n) + 2 ≤ length (c ∷ d ∷ rest)
room_by c d n rest true known less = omega arith
room_by c d n rest false known less = omega (arith, known (omega (arith, less)))

pub has_mark : (bytes : List ℕ) → before_mark bytes < length bytes → before_mark bytes + 2 ≤ length bytes
has_mark [] less = absurd (omega (arith, less))
has_mark (c ∷ []) less = absurd (omega (arith, less))
has_mark (c ∷ d ∷ rest) less = room_by c d (before_mark (d ∷ rest)) rest (c == 59 && d == 59) (has_mark (d ∷ rest)) less

behind_one : (bytes : List ℕ) (at : ℕ) → at < length bytes → is_marked (drop at bytes) ≡ false → before_mark (drop at bytes) ≡ 1 + before_mark (drop (at + 1) bytes)
behind_one [] at less other = absurd (omega (arith, less))
behind_one (c ∷ rest) zero less other = ap (λ b. cond b 0 (1 + before_mark rest)) other
behind_one (c ∷ rest) (suc at) less other =
    let e : suc at + 1 ≡ suc (at + 1) = omega arith in
    behind_one rest at (omega (arith, less)) other ∙ ap (λ n. 1 + before_mark (drop n (c ∷ rest))) (sym e)

-- where no mark is, none begins before the next byte
pub one_behind : (bytes : List ℕ) (at : ℕ) → at < length bytes → is_marked (drop at bytes) ≡ false → at + before_mark (drop at bytes) ≡ before_mark bytes →
    at + 1 + before_mark (drop (at + 1) bytes) ≡ before_mark bytes
one_behind bytes at less other so_far = omega (arith, behind_one bytes at less other, so_far)

-- items of bytes that aren't empty
pub some_items : (bytes : List ℕ) (b : Bool) → b ≡ (length bytes == 0) → b ≡ false → written_items bytes ≡ all_of item_in (between_marks bytes)
some_items [] b is other = let e : true ≡ false = sym is ∙ other in cc
some_items (c ∷ bytes) b is other = refl
