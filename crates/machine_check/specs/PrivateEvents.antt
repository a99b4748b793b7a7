-- Events and what they assign, as the code goes through them. Private contracts alone cite this.
use Rattle.std.specs.Prelude.{ℕ, Bool, not, if◌then◌else◌, List, [], ◌∷◌, ◌++◌, map, drop}
use Rattle.std.specs.List.{list_any, zip}
use Rattle.formula_core.specs.Formulas.{joined}
use Rattle.model_core.specs.declared.component.RawStep.{RawStep}
use Rattle.model_core.specs.declared.fault.Fault.{Fault}
use Rattle.model_core.specs.declared.fault.FaultKind.TheVariants as kind
use Rattle.model_core.specs.Each.{is_among}
use Rattle.model_core.specs.Faults.{fault_at}
use Rattle.check_rules.specs.Declarations.{LabelAt}
use Rattle.check_rules.specs.Typed.{LabelledAction, first_token_of_action}
use Rattle.check_rules.specs.Assignments.{BothEvents, targets_in, inherited_targets, names_on_right, is_bad_start, no_start}
use Rattle.machine_check.specs.declared.assignments.EventPair.{EventPair}
use Rattle.context_check.specs.Texts.{ref_mark, repeated}

abbrev pub both_of : EventPair → BothEvents
both_of p = (p.written.now, p.typed.now)

-- a target that isn't known
abbrev pub no_variable_at : List ℕ → (List ℕ → Bool) → LabelAt → List Fault
no_variable_at component known m = if not (known m.0) then fault_at component kind.NoVariable m.1 m.0 ∷ [] else []

abbrev pub no_variable_in : List ℕ → (List ℕ → Bool) → BothEvents → List Fault
no_variable_in component known e = joined (map (no_variable_at component known) (map ref_mark (targets_in e.0)))

abbrev pub assigned_twice_in : List ℕ → BothEvents → List Fault
assigned_twice_in component e = repeated kind.AssignedTwice component (is_among (inherited_targets e.1)) (map ref_mark (targets_in e.0))

-- an action that reads a known name
abbrev pub reads_at : List ℕ → (List ℕ → Bool) → RawStep × LabelledAction → List Fault
reads_at component known s =
    if list_any known (names_on_right s.1.1) then fault_at component kind.BadInitialisation (first_token_of_action s.0.action) [] ∷ [] else []

abbrev pub bad_start_in : List ℕ → List (List ℕ) → (List ℕ → Bool) → BothEvents → List Fault
bad_start_in component own known e =
    (if is_bad_start own e.1 then fault_at component kind.BadInitialisation e.0.name.place [] ∷ [] else [])
    ++ joined (map (reads_at component known) (zip e.0.actions (drop e.1.own_actions_from e.1.actions)))

abbrev pub bad_starts_in : List ℕ → ℕ → List (List ℕ) → (List ℕ → Bool) → List BothEvents → List Fault
bad_starts_in component heading own known starts = no_start component heading starts ++ joined (map (bad_start_in component own known) starts)
