-- How the lines of bytes begin.
use Rattle.std.proofs.Common.{◌≡◌, ◌≢◌, ℕ, ◌+◌, zero, suc, Bool, true, false, cond, List, [], ◌∷◌, ◌++◌, map, take, drop, refl, sym, ap, ◌∙◌, arith, ne_eqb}
use Rattle.std.proofs.lemmas.List.{append_assoc, append-nil}
use Rattle.std.specs.Str.Lines.{strip_carriage_return}
use Rattle.session_lines.specs.declared.lines.Found.{Found}
use Rattle.session_lines.specs.declared.lines.Found.TheVariants.{Ended, Last}
use Rattle.session_lines.specs.Commands.{put_byte, cut_lines, last_line, text_lines}
use Rattle.session_lines.specs.Private.{Unread, HasNoFeed, IsFirstFeed, IsFirstLine, HasNoLine, line_at, left_behind}
use Rattle.session_lines.specs.Reading.{MayCome}

cut_first : (line rest : List ℕ) → HasNoFeed line → cut_lines (line ++ 10 ∷ rest) ≡ (line ∷ (cut_lines rest).0, (cut_lines rest).1)
cut_first [] rest none = refl
cut_first (b ∷ line) rest none =
    ap (λ t. cond t ([] ∷ (cut_lines (line ++ 10 ∷ rest)).0, (cut_lines (line ++ 10 ∷ rest)).1) (put_byte b (cut_lines (line ++ 10 ∷ rest)).0 (cut_lines (line ++ 10 ∷ rest)).1)) (ne_eqb b 10 none.0)
    ∙ ap (λ (c : List (List ℕ) × List ℕ). put_byte b c.0 c.1) (cut_first line rest none.1)

cut_rest : (line : List ℕ) → HasNoFeed line → cut_lines line ≡ ([], line)
cut_rest [] none = refl
cut_rest (b ∷ line) none =
    ap (λ t. cond t ([] ∷ (cut_lines line).0, (cut_lines line).1) (put_byte b (cut_lines line).0 (cut_lines line).1)) (ne_eqb b 10 none.0)
    ∙ ap (λ (c : List (List ℕ) × List ℕ). put_byte b c.0 c.1) (cut_rest line none.1)

-- the first line, and the lines behind it
lines_first : (line rest : List ℕ) (ended : Bool) → HasNoFeed line → text_lines (line ++ 10 ∷ rest) ended ≡ strip_carriage_return line ∷ text_lines rest ended
lines_first line rest ended none = ap (λ (c : List (List ℕ) × List ℕ). map strip_carriage_return c.0 ++ last_line ended c.1) (cut_first line rest none)

lines_open : (line : List ℕ) → HasNoFeed line → text_lines line false ≡ []
lines_open line none = ap (λ (c : List (List ℕ) × List ℕ). map strip_carriage_return c.0 ++ last_line false c.1) (cut_rest line none) ∙ by line where
  by : (l : List ℕ) → last_line false l ≡ []
  by [] = refl
  by (b ∷ l) = refl

lines_last : (line : List ℕ) → line ≢ [] → HasNoFeed line → text_lines line true ≡ line ∷ []
lines_last [] some none = absurd (some refl)
lines_last (b ∷ line) some none = ap (λ (c : List (List ℕ) × List ℕ). map strip_carriage_return c.0 ++ last_line true c.1) (cut_rest (b ∷ line) none)

-- bytes cut at their first line feed
at_feed : (bytes : List ℕ) (at : ℕ) → IsFirstFeed bytes at → bytes ≡ take at bytes ++ 10 ∷ drop (at + 1) bytes
at_feed [] at first = absurd (omega (arith, first.0))
at_feed (b ∷ bytes) zero first = ap (λ c. c ∷ bytes) first.2
at_feed (b ∷ bytes) (suc at) first =
    let e : suc at + 1 ≡ suc (at + 1) = omega arith in
    ap (λ l. b ∷ l) (at_feed bytes at (omega (arith, first.0), first.1.1, first.2)) ∙ ap (λ n. b ∷ (take at bytes ++ 10 ∷ drop n (b ∷ bytes))) (sym e)

-- whatever comes, the first line comes first
pub first_comes : (left : List ℕ) (ended : Bool) (found : Found) → IsFirstLine (record { left = left; ended = ended }) found →
    (more : List ℕ) (e : Bool) → MayCome ended more e → text_lines (left ++ more) e ≡ line_at left found ∷ text_lines (left_behind left found ++ more) e
first_comes left ended (Ended at) first more e may =
    ap (λ l. text_lines (l ++ more) e) (at_feed left at first)
    ∙ ap (λ l. text_lines l e) (append_assoc (take at left) (10 ∷ drop (at + 1) left) more)
    ∙ lines_first (take at left) (drop (at + 1) left ++ more) e first.1
first_comes left ended Last first more e may =
    let m = may first.0 in
    ap (λ l. text_lines (left ++ l) e) m.0 ∙ ap (λ l. text_lines l e) (append-nil left) ∙ ap (text_lines left) m.1 ∙ lines_last left first.1 first.2
    ∙ ap (λ l. left ∷ l) (sym (ap (λ l. text_lines l e) m.0))

-- no line is there
pub none_comes : (left : List ℕ) (ended : Bool) → HasNoLine (record { left = left; ended = ended }) → text_lines (left ++ []) ended ≡ []
none_comes left ended none = ap (λ l. text_lines l ended) (append-nil left) ∙ by ended none.1 where
  by : (e : Bool) → (e ≡ true → left ≡ []) → text_lines left e ≡ []
  by false gone = lines_open left none.0
  by true gone = ap (λ l. text_lines l true) (gone refl)
