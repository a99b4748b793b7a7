-- The text of a component: each section of names on a line of its own, and one labelled formula a line. Empty sections are left out.
use Rattle.std.specs.Prelude.{ℕ, Bool, true, false, List, [], ◌∷◌, ◌++◌, Option, Some, None, codes, if◌then◌else◌}
use Rattle.std.specs.Option.{option_to_list}
use Rattle.formula_core.specs.declared.raw.Ref.{Ref}
use Rattle.model_core.specs.declared.component.Convergence.{Convergence}
use Rattle.model_core.specs.declared.component.Convergence.TheVariants.{Ordinary, Convergent, Anticipated}
use Rattle.model_core.specs.declared.component.RawLabelled.{RawLabelled}
use Rattle.model_core.specs.declared.component.RawVariant.{RawVariant}
use Rattle.model_core.specs.declared.component.RawStep.{RawStep}
use Rattle.model_core.specs.declared.component.RawEvent.{RawEvent}
use Rattle.model_core.specs.declared.component.RawComponent.{RawComponent}
use Rattle.model_core.specs.declared.component.RawComponent.TheVariants.{Context, Machine}
use Rattle.raw_print.specs.Printing.{raw_text, action_text}

-- each name behind a blank
abbrev pub names_text : List Ref → List ℕ
names_text [] = []
names_text (r ∷ rs) = codes " " ++ (r.name ++ names_text rs)

-- the words and the names on a line, where there are names
abbrev pub names_line : List ℕ → List Ref → List ℕ
names_line words [] = []
names_line words (r ∷ rs) = words ++ (names_text (r ∷ rs) ++ codes "\n")

abbrev pub theorem_text : Bool → List ℕ
theorem_text true = codes "theorem "
theorem_text false = []

-- the label and the formula on a line, behind the margin
abbrev pub labelled_line : List ℕ → RawLabelled → List ℕ
labelled_line margin l = margin ++ (theorem_text l.theorem ++ (codes "@" ++ (l.label ++ (codes " " ++ (raw_text l.formula ++ codes "\n")))))

abbrev pub labelled_lines : List ℕ → List RawLabelled → List ℕ
labelled_lines margin [] = []
labelled_lines margin (l ∷ ls) = labelled_line margin l ++ labelled_lines margin ls

-- the words on a line, and the formulas, where there are some
abbrev pub section : List ℕ → List ℕ → List RawLabelled → List ℕ
section words margin [] = []
section words margin (l ∷ ls) = words ++ (codes "\n" ++ labelled_lines margin (l ∷ ls))

abbrev pub step_line : RawStep → List ℕ
step_line s = codes "      @" ++ (s.label ++ (codes " " ++ (action_text s.action ++ codes "\n")))

abbrev pub step_lines : List RawStep → List ℕ
step_lines [] = []
step_lines (s ∷ ss) = step_line s ++ step_lines ss

abbrev pub steps_section : List RawStep → List ℕ
steps_section [] = []
steps_section (s ∷ ss) = codes "    then\n" ++ step_lines (s ∷ ss)

abbrev pub convergence_text : Convergence → List ℕ
convergence_text Ordinary = []
convergence_text Convergent = codes "convergent "
convergence_text Anticipated = codes "anticipated "

-- an event that extends another names it behind `extends`
abbrev pub abstract_words : Bool → List ℕ
abstract_words extended = if extended then codes "    extends" else codes "    refines"

abbrev pub event_heading : RawEvent → List ℕ
event_heading e = codes "  " ++ (convergence_text e.convergence ++ (codes "event " ++ (e.name.name ++ codes "\n")))

abbrev pub event_text : RawEvent → List ℕ
event_text e =
    event_heading e
    ++ (names_line (abstract_words e.extended) e.refines ++ (names_line (codes "    any") e.params
    ++ (section (codes "    where") (codes "      ") e.guards ++ (section (codes "    with") (codes "      ") e.witnesses
    ++ (steps_section e.actions ++ codes "  end\n")))))

abbrev pub event_texts : List RawEvent → List ℕ
event_texts [] = []
event_texts (e ∷ es) = event_text e ++ event_texts es

abbrev pub events_section : List RawEvent → List ℕ
events_section [] = []
events_section (e ∷ es) = codes "events\n" ++ event_texts (e ∷ es)

abbrev pub variant_line : Option RawVariant → List ℕ
variant_line None = []
variant_line (Some v) = codes "variant " ++ (raw_text v.formula ++ codes "\n")

abbrev pub heading_text : List ℕ → Ref → List ℕ
heading_text word name = word ++ (name.name ++ codes "\n")

abbrev pub context_sections : List Ref → List Ref → List Ref → List RawLabelled → List ℕ
context_sections extends sets constants axioms =
    names_line (codes "extends") extends ++ (names_line (codes "sets") sets ++ (names_line (codes "constants") constants ++ section (codes "axioms") (codes "  ") axioms))

abbrev pub machine_sections : Option Ref → List Ref → List Ref → List RawLabelled → Option RawVariant → List RawEvent → List ℕ
machine_sections refines sees variables invariants variant events =
    names_line (codes "refines") (option_to_list refines) ++ (names_line (codes "sees") sees ++ (names_line (codes "variables") variables
    ++ (section (codes "invariants") (codes "  ") invariants ++ (variant_line variant ++ events_section events))))

-- the text of a component
abbrev pub component_text : RawComponent → List ℕ
component_text (Context name extends sets constants axioms) = heading_text (codes "context ") name ++ (context_sections extends sets constants axioms ++ codes "end\n")
component_text (Machine name refines sees variables invariants variant events) =
    heading_text (codes "machine ") name ++ (machine_sections refines sees variables invariants variant events ++ codes "end\n")
