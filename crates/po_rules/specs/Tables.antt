-- The obligations of a component, in the order of the table.
use Rattle.std.specs.Prelude.{List, [], ◌∷◌, ◌++◌, Option}
use Rattle.std.specs.Option.{option_to_list}
use Rattle.model_core.specs.declared.checked.Checked.{Checked}
use Rattle.model_core.specs.declared.checked.Checked.TheVariants.{Context, Machine}
use Rattle.model_core.specs.declared.checked.CheckedMachine.{CheckedMachine}
use Rattle.model_core.specs.declared.checked.CheckedEvent.{CheckedEvent}
use Rattle.model_core.specs.Each.{for_each}
use Rattle.sequent_core.specs.declared.sequent.Obligation.{Obligation}
use Rattle.po_rules.specs.Parts.{EventParts, parts_of}
use Rattle.model_core.specs.Refined.{refined_by}
use Rattle.po_rules.specs.Rows.{axiom_rows, own_invariant_rows, variant_rows, guard_rows, witness_rows, strengthening_rows, merging_rows, action_rows, simulation_rows, equality_rows, invariant_rows, decrease_rows}

-- the rows of one event
pub data EventRow : Type 0 where
  guards : EventRow
  witnesses : EventRow
  strengthening : EventRow
  merging : EventRow
  actions : EventRow
  simulation : EventRow
  equality : EventRow
  invariants : EventRow
  variant : EventRow

-- the order of the table
abbrev pub all_rows : List EventRow
all_rows = guards ∷ witnesses ∷ strengthening ∷ merging ∷ actions ∷ simulation ∷ equality ∷ invariants ∷ variant ∷ []

abbrev pub row_of_event : CheckedMachine → Option CheckedMachine → CheckedEvent → List CheckedEvent → EventParts → EventRow → List Obligation
row_of_event m abstraction e refined p guards = guard_rows m e p
row_of_event m abstraction e refined p witnesses = witness_rows p
row_of_event m abstraction e refined p strengthening = strengthening_rows e refined p
row_of_event m abstraction e refined p merging = merging_rows refined p
row_of_event m abstraction e refined p actions = action_rows e p
row_of_event m abstraction e refined p simulation = simulation_rows m e refined p
row_of_event m abstraction e refined p equality = equality_rows m abstraction refined p
row_of_event m abstraction e refined p invariants = invariant_rows m e p
row_of_event m abstraction e refined p variant = for_each (decrease_rows e refined p) (option_to_list m.variant)

-- some rows of an event, in this order
abbrev pub event_rows : List EventRow → CheckedMachine → Option CheckedMachine → CheckedEvent → List Obligation
event_rows rows m abstraction e =
    for_each (row_of_event m abstraction e (refined_by abstraction e) (parts_of m e (refined_by abstraction e))) rows

-- own invariants, the variant, and then each event
abbrev pub machine_rows : CheckedMachine → Option CheckedMachine → List Obligation
machine_rows m abstraction =
    own_invariant_rows m ++ for_each (variant_rows m) (option_to_list m.variant) ++ for_each (event_rows all_rows m abstraction) m.events

-- the obligations of a component, beside the machine that it refines
abbrev pub obligations_of : Checked → Option CheckedMachine → List Obligation
obligations_of (Context c) abstraction = axiom_rows c
obligations_of (Machine m) abstraction = machine_rows m abstraction
