-- The first line of a text, and line feeds.
use Rattle.std.proofs.Common.{◌≡◌, ◌∙◌, ap, refl, sym, subst, ℕ, suc, ◌+◌, ◌<◌, ◌≤◌, Bool, true, false, not, ◌==◌, List, [], ◌∷◌, ◌++◌, length, take, drop, get_or, min, nat_le, inl, inr, arith, length-append}
use Rattle.std.specs.List.{prefix_len, filter}
use Rattle.std.specs.Str.{IsUtf8, IsCharBoundary}
use Rattle.std.proofs.lemmas.Bool.Decides.{nat_tests}
use Rattle.std.proofs.lemmas.List.{take-append-drop}
use Rattle.std.proofs.lemmas.List.Elements.{filter-append}
use Rattle.std.proofs.lemmas.List.Sums.{prefix_len_stops}
use Rattle.std.proofs.lemmas.Str.{IsCharBoundary-after_ascii, IsCharBoundary-end}
use Rattle.check_input.specs.Inputs.{whole_lines, in_first_line, line_feeds}
use Rattle.check_input.specs.PrivateCutting.{BeginsWithLine}
use Rattle.check_input.proofs.HeadingLines.{cut_by}

abbrev is_before_feed : ℕ → Bool
is_before_feed c = not (c == 10)

abbrev before_feed : List ℕ → ℕ
before_feed text = prefix_len is_before_feed text

-- the first line by how many bytes it has
abbrev IsCutAt : List ℕ → ℕ → Type 0
IsCutAt text n = whole_lines text ≡ take n text ∷ whole_lines (drop n text)

cut_last : (c : ℕ) (b : Bool) → (c == 10) ≡ b → IsCutAt (c ∷ []) (suc (before_feed (c ∷ [])))
cut_last c true e = rw e refl
cut_last c false e = rw e refl

cut_more : (c d : ℕ) (text : List ℕ) (b : Bool) → (c == 10) ≡ b → IsCutAt (d ∷ text) (suc (before_feed (d ∷ text))) → IsCutAt (c ∷ d ∷ text) (suc (before_feed (c ∷ d ∷ text)))
cut_more c d text true e h = rw e refl
cut_more c d text false e h =
    let n : 1 + before_feed (d ∷ text) ≡ suc (before_feed (d ∷ text)) = omega arith in
    rw (e, n) (ap (in_first_line c) h)

cut_line : (c : ℕ) (text : List ℕ) → IsCutAt (c ∷ text) (suc (before_feed (c ∷ text)))
cut_line c [] = cut_last c (c == 10) refl
cut_line c (d ∷ text) = cut_more c d text (c == 10) refl (cut_line d text)

pub first_line_at : (text : List ℕ) (m : ℕ) → m ≡ min (length text) (before_feed text + 1) → BeginsWithLine text (take m text) (drop m text)
first_line_at [] m h = let none : m ≡ 0 = omega arith in rw none (refl, inl (refl, refl))
first_line_at (c ∷ text) m h =
    let n : before_feed (c ∷ text) + 1 ≡ suc (before_feed (c ∷ text)) = omega arith in
    let at : m ≡ min (length (c ∷ text)) (suc (before_feed (c ∷ text))) = h ∙ ap (min (length (c ∷ text))) n in
    let cut = cut_by (c ∷ text) (suc (before_feed (c ∷ text))) m (nat_le (length (c ∷ text)) (suc (before_feed (c ∷ text)))) refl at in
    rw (cut.0, cut.1) (sym (take-append-drop (suc (before_feed (c ∷ text))) (c ∷ text)), inr (omega arith, cut_line c text))

-- a text may be cut behind its first line
behind_feed : (text : List ℕ) → IsUtf8 text → before_feed text < length text → IsCharBoundary text (before_feed text + 1)
behind_feed text utf8 inside =
    let feed : get_or text (before_feed text) 0 ≡ 10 = is_feed (get_or text (before_feed text) 0) (prefix_len_stops is_before_feed text 0 inside) in
    IsCharBoundary-after_ascii text (before_feed text) utf8 inside (omega arith)
  where
    is_feed : (c : ℕ) → not (c == 10) ≡ false → c ≡ 10
    is_feed c h = grind (arith, nat_tests)

pub line_ends : (text : List ℕ) (m : ℕ) → m ≡ min (length text) (before_feed text + 1) → IsUtf8 text → IsCharBoundary text m
line_ends text m h utf8 = go (nat_le (length text) (before_feed text)) refl
  where
    go : (b : Bool) → nat_le (length text) (before_feed text) ≡ b → IsCharBoundary text m
    go true e = let all : length text ≤ before_feed text = grind (arith, nat_tests) in let end : m ≡ length text = omega arith in subst (IsCharBoundary text) (sym end) (IsCharBoundary-end text)
    go false e =
        let inside : before_feed text < length text = grind (arith, nat_tests) in
        let end : m ≡ before_feed text + 1 = omega arith in
        subst (IsCharBoundary text) (sym end) (behind_feed text utf8 inside)

pub feeds_append : (xs ys : List ℕ) → line_feeds (xs ++ ys) ≡ line_feeds xs + line_feeds ys
feeds_append xs ys = ap length (filter-append (λ c. c == 10) xs ys) ∙ length-append (filter (λ c. c == 10) xs) (filter (λ c. c == 10) ys)

pub feeds_within : (text : List ℕ) → line_feeds text ≤ length text
feeds_within [] = omega arith
feeds_within (c ∷ text) = go (c == 10) refl (feeds_within text)
  where
    go : (b : Bool) → (c == 10) ≡ b → line_feeds text ≤ length text → line_feeds (c ∷ text) ≤ length (c ∷ text)
    go true e h = rw e (omega arith)
    go false e h = rw e (omega arith)
