-- What only private contracts on the components cite.
use Rattle.std.specs.Prelude.{◌≡◌, ℕ, Bool, nat_le, nat_lt, List, [], map, length, Option, Some, None, Result, Ok, if◌then◌else◌}
use Rattle.std.specs.Borrow.{Bor}
use Rattle.std.specs.BTreeSet.{BTreeSet}
use Rattle.model_core.specs.Each.{is_among}
use Rattle.check_input.specs.declared.input.InputFault.{InputFault}
use Rattle.check_input.specs.declared.input.InputFault.TheVariants as fault
use Rattle.check_input.specs.declared.cutting.Piece.{Piece}
use Rattle.check_input.specs.Headings.{is_blank_text}
use Rattle.check_input.specs.PrivateCutting.{numbered_of}
use Rattle.check_input.specs.Inputs.{Component, Numbered, input_parts, first_fault, without_fault, made_of}
use Rattle.model_core.specs.Borrowed.{has}

abbrev pub component_names : List Component → List (List ℕ)
component_names parts = map (λ p. p.0) parts

-- the set has the names of these components
abbrev pub AreNames : BTreeSet (Bor (List ℕ)) → List Component → Type 0
AreNames set parts = (name : List ℕ) → has set name ≡ is_among (component_names parts) name

abbrev pub component_of_piece : Piece → Component
component_of_piece p = (p.name.now, p.text.now)

-- what is wrong with a component behind so many others, of which these are the names
abbrev pub fault_among : (List ℕ → Bool) → ℕ → Numbered → Option InputFault
fault_among known count p =
    if known p.1.0 then Some (fault.Second p.0 p.1.0)
    else (if nat_le 256 count then Some (fault.TooMany p.0)
    else (if nat_lt 65536 (length p.1.1) then Some (fault.TextTooLong p.0)
    else None))

abbrev pub fault_here : List (List ℕ) → Numbered → Option InputFault
fault_here before p = fault_among (is_among before) (length before) p

-- what is wrong with a component behind these
abbrev pub fault_behind : List Component → Piece → Option InputFault
fault_behind parts p = fault_here (component_names parts) (numbered_of p)

-- the components, or the first fault
abbrev pub validated : List Numbered → Result (List Component) InputFault
validated parts = without_fault parts (first_fault [] parts)

-- what a text is as an input
abbrev pub outcome : List ℕ → Result (List Component) InputFault
outcome text = if is_blank_text text then Ok [] else made_of (input_parts text)
