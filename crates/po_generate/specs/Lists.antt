-- Two lists of the obligations of a component: those that it owes by itself, and the others.
use Rattle.std.specs.Prelude.{◌↔◌, ◌⊎◌, List, [], ◌∷◌, ◌++◌, Option}
use Rattle.std.specs.Option.{option_to_list}
use Rattle.model_core.specs.declared.checked.Checked.{Checked}
use Rattle.model_core.specs.declared.checked.Checked.TheVariants.{Context, Machine}
use Rattle.model_core.specs.declared.checked.CheckedMachine.{CheckedMachine}
use Rattle.model_core.specs.declared.checked.CheckedEvent.{CheckedEvent}
use Rattle.model_core.specs.Each.{for_each, IsIn}
use Rattle.sequent_core.specs.declared.sequent.Obligation.{Obligation}
use Rattle.model_core.specs.Refined.{refined_by}
use Rattle.po_rules.specs.Rows.{axiom_rows, own_invariant_rows, variant_rows}
use Rattle.po_rules.specs.Tables.{EventRow, guards, witnesses, strengthening, merging, actions, simulation, equality, invariants, variant, event_rows, obligations_of}

-- what an event owes by itself, beside the events that it refines
abbrev pub rows_alone : List CheckedEvent → List EventRow
rows_alone [] = guards ∷ actions ∷ invariants ∷ []
rows_alone (r ∷ refined) = guards ∷ actions ∷ []

-- and what it owes to the variant and to those events
abbrev pub rows_beside : List CheckedEvent → List EventRow
rows_beside [] = witnesses ∷ strengthening ∷ merging ∷ simulation ∷ equality ∷ variant ∷ []
rows_beside (r ∷ refined) = witnesses ∷ strengthening ∷ merging ∷ simulation ∷ equality ∷ invariants ∷ variant ∷ []

abbrev pub machine_obligations_of : Checked → Option CheckedMachine → List Obligation
machine_obligations_of (Context c) abstraction = axiom_rows c
machine_obligations_of (Machine m) abstraction =
    own_invariant_rows m ++ for_each (λ e. event_rows (rows_alone (refined_by abstraction e)) m abstraction e) m.events

abbrev pub refine_obligations_of : Checked → Option CheckedMachine → List Obligation
refine_obligations_of (Context c) abstraction = []
refine_obligations_of (Machine m) abstraction =
    for_each (variant_rows m) (option_to_list m.variant)
    ++ for_each (λ e. event_rows (rows_beside (refined_by abstraction e)) m abstraction e) m.events

-- a component has an obligation exactly where one of the two lists has it
abbrev pub HasEachInOneList : Type 0
HasEachInOneList = (checked : Checked) (abstraction : Option CheckedMachine) (o : Obligation)
    → IsIn o (obligations_of checked abstraction) ↔ (IsIn o (machine_obligations_of checked abstraction) ⊎ IsIn o (refine_obligations_of checked abstraction))
