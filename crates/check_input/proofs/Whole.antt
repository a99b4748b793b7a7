-- The components of an input are the whole of it.
use Rattle.std.proofs.Common.{◌≡◌, ◌∙◌, ap, refl, sym, ℕ, Bool, true, false, cond, ◌+◌, ◌==◌, List, [], ◌∷◌, ◌++◌, Option, Some, None, Result, Ok, Err, inl, inr}
use Rattle.std.proofs.lemmas.List.{append_assoc}
use Rattle.check_input.specs.declared.input.InputFault.{InputFault}
use Rattle.check_input.specs.Headings.{heading_of, is_blank_text}
use Rattle.check_input.specs.Inputs.{Component, Numbered, in_first_line, whole_lines, line_feeds, headed, numbered, after_front, without_lines, first_fault, without_fault, made_of, input_parts, IsInput}
use Rattle.check_input.specs.Laws.{texts_of, PartsMakeTheInput}

-- ---- lines
abbrev joined_lines : List (List ℕ) → List ℕ
joined_lines [] = []
joined_lines (line ∷ lines) = line ++ joined_lines lines

first_joined : (c : ℕ) (lines : List (List ℕ)) → joined_lines (in_first_line c lines) ≡ c ∷ joined_lines lines
first_joined c [] = refl
first_joined c (line ∷ lines) = refl

one_more : (c : ℕ) (text : List ℕ) (b : Bool) → (c == 10) ≡ b → joined_lines (whole_lines text) ≡ text → joined_lines (whole_lines (c ∷ text)) ≡ c ∷ text
one_more c text true e h = rw e (ap (λ t. c ∷ t) h)
one_more c text false e h = rw e (first_joined c (whole_lines text) ∙ ap (λ t. c ∷ t) h)

lines_joined : (text : List ℕ) → joined_lines (whole_lines text) ≡ text
lines_joined [] = refl
lines_joined (c ∷ text) = one_more c text (c == 10) refl (lines_joined text)

-- ---- components from their heading lines on
abbrev MakeLines : List (List ℕ) → Type 0
MakeLines lines = (headed lines).front ++ texts_of (headed lines).parts ≡ joined_lines lines

one_line : (line : List ℕ) (lines : List (List ℕ)) (name : Option (List ℕ)) → heading_of line ≡ name → MakeLines lines → MakeLines (line ∷ lines)
one_line line lines None e h = rw e (append_assoc line (headed lines).front (texts_of (headed lines).parts) ∙ ap (λ t. line ++ t) h)
one_line line lines (Some name) e h = rw e (append_assoc line (headed lines).front (texts_of (headed lines).parts) ∙ ap (λ t. line ++ t) h)

make_lines : (lines : List (List ℕ)) → MakeLines lines
make_lines [] = refl
make_lines (line ∷ lines) = one_line line lines (heading_of line) refl (make_lines lines)

-- ---- numbers and what stands in front
not_numbered : (line : ℕ) (parts : List Component) → without_lines (numbered line parts) ≡ parts
not_numbered line [] = refl
not_numbered line (p ∷ parts) = ap (λ rest. p ∷ rest) (not_numbered (line + line_feeds p.1) parts)

in_front : (front : List ℕ) (parts : List Numbered) (q : Numbered) (rest : List Numbered) → after_front front parts ≡ q ∷ rest → texts_of (without_lines (after_front front parts)) ≡ front ++ texts_of (without_lines parts)
in_front front [] q rest h = cc
in_front front (p ∷ parts) q rest h = append_assoc front p.1.1 (texts_of (without_lines parts))

whole : (bytes : List ℕ) (q : Numbered) (rest : List Numbered) → input_parts bytes ≡ q ∷ rest → texts_of (without_lines (input_parts bytes)) ≡ bytes
whole bytes q rest h =
    let front = (headed (whole_lines bytes)).front in
    let parts = (headed (whole_lines bytes)).parts in
    in_front front (numbered (1 + line_feeds front) parts) q rest h
    ∙ ap (λ ps. front ++ texts_of ps) (not_numbered (1 + line_feeds front) parts)
    ∙ make_lines (whole_lines bytes)
    ∙ lines_joined bytes

-- ---- an input
no_fault : (parts : List Numbered) (o : Option InputFault) (found : List Component) → without_fault parts o ≡ Ok found → without_lines parts ≡ found
no_fault parts None found h = cc
no_fault parts (Some f) found h = cc

made : (bytes : List ℕ) (ns : List Numbered) (found : List Component) → input_parts bytes ≡ ns → made_of ns ≡ Ok found → texts_of found ≡ bytes
made bytes [] found e h = cc
made bytes (q ∷ rest) found e h =
    let same : without_lines (q ∷ rest) ≡ found = no_fault (q ∷ rest) (first_fault [] (q ∷ rest)) found h in
    sym (ap texts_of same) ∙ sym (ap (λ ns. texts_of (without_lines ns)) e) ∙ whole bytes q rest e

pub parts_make_the_input : PartsMakeTheInput
parts_make_the_input bytes parts written h = elim h [
  | inl bad ↦ cc
  | inr fine ↦
      let made_so : Ok parts ≡ made_of (input_parts bytes) = fine.1 ∙ ap (λ b. cond b (Ok []) (made_of (input_parts bytes))) written in
      made bytes (input_parts bytes) parts refl (sym made_so)
]
