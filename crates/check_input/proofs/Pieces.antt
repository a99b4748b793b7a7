-- A text that is cut at its heading lines.
use Rattle.std.proofs.Common.{◌≡◌, ◌∙◌, ap, refl, sym, subst, ℕ, ◌+◌, ◌-◌, List, [], ◌∷◌, ◌++◌, length, take, Option, Some, None, inl, inr, append_assoc, length-append, arith}
use Rattle.std.specs.Str.{IsUtf8, IsCharBoundary}
use Rattle.std.proofs.Math.Seq.{take-append_seam}
use Rattle.std.proofs.lemmas.Str.{IsCharBoundary-at_seam}
use Rattle.std.proofs.lemmas.List.{append-nil}
use Rattle.check_input.specs.Headings.{heading_of}
use Rattle.check_input.specs.Inputs.{Numbered, HeadedParts, with_line, headed, whole_lines, line_feeds, numbered, after_front}
use Rattle.check_input.specs.PrivateCutting.{front_of, parts_behind, BeginsWithLine, IsBehindPlain, numbered_from}
use Rattle.check_input.proofs.Lines.{feeds_append}

-- ---- the lines before the first heading line
pub passed_more : (text rest behind : List ℕ) → IsBehindPlain text rest → IsBehindPlain rest behind → IsBehindPlain text behind
passed_more text rest behind a b = record {
  passed = a.passed ++ b.passed;
  whole = a.whole ∙ (ap (λ xs. a.passed ++ xs) b.whole ∙ sym (append_assoc a.passed b.passed behind));
  front = a.front ∙ (ap (λ xs. a.passed ++ xs) b.front ∙ sym (append_assoc a.passed b.passed (front_of behind)));
  parts = a.parts ∙ b.parts;
}

module _ (text line behind : List ℕ) where
  by_line : whole_lines text ≡ line ∷ whole_lines behind → (o : Option (List ℕ)) → heading_of line ≡ o → headed (whole_lines text) ≡ with_line line o (headed (whole_lines behind))
  by_line cut o e = ap headed cut ∙ ap (λ x. with_line line x (headed (whole_lines behind))) e

  -- the first component of a text that begins with a heading line
  pub headed_parts : BeginsWithLine text line behind → (name : List ℕ) → heading_of line ≡ Some name →
      parts_behind text ≡ (name, line ++ front_of behind) ∷ parts_behind behind
  headed_parts cut name e = elim cut.1 [
    | inl empty ↦ (let never : None ≡ Some name = sym (ap heading_of empty.1) ∙ e in cc)
    | inr some ↦ ap (λ (x : HeadedParts). x.parts) (by_line some.1 (Some name) e)
  ]

-- ---- the first component, and those behind it
no_front_more : (parts : List Numbered) → after_front [] parts ≡ parts
no_front_more [] = refl
no_front_more (p ∷ parts) = refl

module _ (line : ℕ) (text front part heading behind next name : List ℕ) (lines : IsBehindPlain behind next) where
  abbrev piece_text : List ℕ
  piece_text = front ++ (heading ++ lines.passed)

  pub piece_whole : text ≡ front ++ part → BeginsWithLine part heading behind → text ≡ piece_text ++ next
  piece_whole whole cut =
      whole ∙ (ap (λ xs. front ++ xs) (cut.0 ∙ (ap (λ xs. heading ++ xs) lines.whole ∙ sym (append_assoc heading lines.passed next)))
      ∙ sym (append_assoc front (heading ++ lines.passed) next))

  all_parts : parts_behind text ≡ parts_behind part → BeginsWithLine part heading behind → heading_of heading ≡ Some name → front_of next ≡ [] →
      parts_behind text ≡ (name, heading ++ lines.passed) ∷ parts_behind next
  all_parts parts cut e stops =
      let passed : front_of behind ≡ lines.passed = lines.front ∙ (ap (λ xs. lines.passed ++ xs) stops ∙ append-nil lines.passed) in
      parts ∙ (headed_parts part heading behind cut name e ∙ (λ i. (name, heading ++ passed i) ∷ lines.parts i))

  behind_lines : (n : ℕ) → front_of next ≡ [] → numbered_from n next ≡ numbered (n + 0) (parts_behind next)
  behind_lines n stops =
      ap (λ xs. after_front xs (numbered (n + line_feeds xs) (parts_behind next))) stops ∙ no_front_more (numbered (n + 0) (parts_behind next))

  line_behind : line + line_feeds front + line_feeds (heading ++ lines.passed) ≡ line + line_feeds piece_text + 0
  line_behind = let h = feeds_append front (heading ++ lines.passed) in omega arith

  pub first_piece : front_of text ≡ front → parts_behind text ≡ parts_behind part → BeginsWithLine part heading behind → heading_of heading ≡ Some name → front_of next ≡ [] →
      numbered_from line text ≡ (line + line_feeds front, (name, piece_text)) ∷ numbered_from (line + line_feeds piece_text) next
  first_piece before parts cut e stops =
      let all = all_parts parts cut e stops in
      (λ i. after_front (before i) (numbered (line + line_feeds (before i)) (all i)))
      ∙ (ap (λ n. (line + line_feeds front, (name, piece_text)) ∷ numbered n (parts_behind next)) line_behind
      ∙ ap (λ ps. (line + line_feeds front, (name, piece_text)) ∷ ps) (sym (behind_lines (line + line_feeds piece_text) stops)))

-- ---- a text that is cut in two
module _ (text xs ys : List ℕ) (whole : text ≡ xs ++ ys) where
  pub cut_length : length text ≡ length xs + length ys
  cut_length = ap length whole ∙ length-append xs ys

  pub cut_boundary : (k : ℕ) → k ≡ length text - length ys → IsUtf8 ys → IsCharBoundary text k
  cut_boundary k is utf8 =
      let n = cut_length in
      let at : k ≡ length xs = omega arith in
      subst (IsCharBoundary text) (sym at) (IsCharBoundary-at_seam text xs ys whole utf8)

  pub cut_take : (k : ℕ) → k ≡ length text - length ys → take k text ≡ xs
  cut_take k is =
      let n = cut_length in
      let at : k ≡ length xs = omega arith in
      (λ i. take (at i) (whole i)) ∙ take-append_seam xs ys
