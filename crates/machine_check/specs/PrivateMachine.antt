-- A machine as the code goes through it. Private contracts alone cite this.
use Rattle.std.specs.Prelude.{◌≡◌, not, List, [], ◌++◌, map, Option}
use Rattle.std.specs.List.{filter}
use Rattle.std.specs.Option.{option_copied}
use Rattle.formula_core.specs.Formulas.{joined}
use Rattle.model_core.specs.declared.fault.Fault.{Fault}
use Rattle.model_core.specs.declared.checked.CheckedMachine.{CheckedMachine}
use Rattle.model_core.specs.Each.{is_among}
use Rattle.model_core.specs.Faults.{first_by_place}
use Rattle.check_rules.specs.Contexts.{labels_of}
use Rattle.check_rules.specs.Declarations.{declared_twice, labelled_twice}
use Rattle.check_rules.specs.Events.{event_declarations}
use Rattle.check_rules.specs.Machines.{Written, abstract_events, abstract_variables, own_names, IsTypedMachine}
use Rattle.check_rules.specs.Visible.{Visible, entries, all_visible, names}
use Rattle.machine_check.specs.declared.machine.WrittenMachine.{WrittenMachine}

abbrev pub written_of : WrittenMachine → Written
written_of w = record {
  name = w.name.now;
  sees = w.sees.now;
  variables = w.variables.now;
  invariants = w.invariants.now;
  variant = option_copied w.variant;
  events = w.events.now;
}

-- kinds 10 and 11, but for the clashes that references to contexts bring
abbrev pub own_declarations : Option CheckedMachine → Written → Visible → List Fault
own_declarations m w v =
    declared_twice w.name.name (filter (λ n. not (is_among (abstract_variables m) n)) (names (entries (all_visible v)))) w.variables
    ++ labelled_twice w.name.name [] (labels_of w.invariants)
    ++ declared_twice w.name.name [] (map (λ e. e.name) w.events)
    ++ joined (map (event_declarations w.name.name (abstract_events m) (names (entries (all_visible v)) ++ own_names w)) w.events)

abbrev pub IsTypedMachineSoFar : Option CheckedMachine → Written → Visible → CheckedMachine → Option Fault → Type 0
IsTypedMachineSoFar m w v typed first = (faults : List Fault) × IsTypedMachine m w v typed faults × (first ≡ first_by_place faults)
