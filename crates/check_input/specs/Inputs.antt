-- An input by its components, or what is wrong with it.
use Rattle.std.specs.Prelude.{◌≡◌, ◌⊎◌, ℕ, ◌+◌, ◌==◌, nat_lt, nat_le, List, [], ◌∷◌, ◌++◌, length, Option, Some, None, Result, Ok, Err, if◌then◌else◌}
use Rattle.std.specs.List.{filter}
use Rattle.std.specs.Str.{IsUtf8}
use Rattle.model_core.specs.Each.{is_among}
use Rattle.check_input.specs.Headings.{heading_of, is_blank_text}
use Rattle.check_input.specs.declared.input.InputFault.{InputFault}
use Rattle.check_input.specs.declared.input.InputFault.TheVariants as fault

-- the name and the text of a component
abbrev pub Component : Type 0
Component = List ℕ × List ℕ

abbrev pub in_first_line : ℕ → List (List ℕ) → List (List ℕ)
in_first_line c [] = (c ∷ []) ∷ []
in_first_line c (line ∷ lines) = (c ∷ line) ∷ lines

-- the lines of a text, each with the line feed that ends it
abbrev pub whole_lines : List ℕ → List (List ℕ)
whole_lines [] = []
whole_lines (c ∷ text) = if c == 10 then (c ∷ []) ∷ whole_lines text else in_first_line c (whole_lines text)

-- how many line feeds a text has
abbrev pub line_feeds : List ℕ → ℕ
line_feeds text = length (filter (λ c. c == 10) text)

-- lines: those before the first heading line, and components, each from its heading line on
pub record HeadedParts : Type 0 where
  pub front : List ℕ
  pub parts : List Component

abbrev pub with_line : List ℕ → Option (List ℕ) → HeadedParts → HeadedParts
with_line line None h = record { front = line ++ h.front; parts = h.parts }
with_line line (Some name) h = record { front = []; parts = (name, line ++ h.front) ∷ h.parts }

abbrev pub headed : List (List ℕ) → HeadedParts
headed [] = record { front = []; parts = [] }
headed (line ∷ lines) = with_line line (heading_of line) (headed lines)

-- a component with the line of its heading
abbrev pub Numbered : Type 0
Numbered = ℕ × Component

-- where the first of these has its heading on this line
abbrev pub numbered : ℕ → List Component → List Numbered
numbered line [] = []
numbered line (p ∷ parts) = (line, p) ∷ numbered (line + line_feeds p.1) parts

abbrev pub after_front : List ℕ → List Numbered → List Numbered
after_front front [] = []
after_front front (p ∷ parts) = (p.0, (p.1.0, front ++ p.1.1)) ∷ parts

abbrev pub numbered_parts : HeadedParts → List Numbered
numbered_parts h = after_front h.front (numbered (1 + line_feeds h.front) h.parts)

-- The components of a text with the lines of their headings, counted from 1. The first begins at the text's start, each
-- other one with its heading line.
abbrev pub input_parts : List ℕ → List Numbered
input_parts bytes = numbered_parts (headed (whole_lines bytes))

-- The first of these that has the name of an earlier one, is one more than 256, or has a text of more than 65,536 bytes,
-- where `before` are the names before.
abbrev pub first_fault : List (List ℕ) → List Numbered → Option InputFault
first_fault before [] = None
first_fault before (p ∷ parts) =
    if is_among before p.1.0 then Some (fault.Second p.0 p.1.0)
    else (if nat_le 256 (length before) then Some (fault.TooMany p.0)
    else (if nat_lt 65536 (length p.1.1) then Some (fault.TextTooLong p.0)
    else first_fault (before ++ p.1.0 ∷ []) parts))

abbrev pub without_lines : List Numbered → List Component
without_lines [] = []
without_lines (p ∷ parts) = p.1 ∷ without_lines parts

abbrev pub without_fault : List Numbered → Option InputFault → Result (List Component) InputFault
without_fault parts None = Ok (without_lines parts)
without_fault parts (Some f) = Err f

-- of a text that isn't blank
abbrev pub made_of : List Numbered → Result (List Component) InputFault
made_of [] = Err fault.NoHeading
made_of (p ∷ parts) = without_fault (p ∷ parts) (first_fault [] (p ∷ parts))

-- What an input is: a blank one has no component.
abbrev pub IsInput : List ℕ → Result (List Component) InputFault → Type 0
IsInput bytes input =
    ((IsUtf8 bytes → ⊥) × (input ≡ Err fault.NotUtf8))
    ⊎ (IsUtf8 bytes × (input ≡ (if is_blank_text bytes then Ok [] else made_of (input_parts bytes))))
