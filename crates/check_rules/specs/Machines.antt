-- When a machine is checked, and what it checks to.
use Rattle.std.specs.Prelude.{◌≡◌, ℕ, not, ◌&&◌, List, [], ◌++◌, map, length, MatchOption, Option, Result, Ok, Err}
use Rattle.std.specs.List.{filter, zip}
use Rattle.std.specs.Option.{option_map, option_map_or}
use Rattle.formula_core.specs.declared.raw.Ref.{Ref}
use Rattle.formula_core.specs.declared.formula.Formula.{Formula}
use Rattle.formula_core.specs.Formulas.{joined}
use Rattle.model_core.specs.declared.fault.Fault.{Fault}
use Rattle.model_core.specs.declared.component.RawLabelled.{RawLabelled}
use Rattle.model_core.specs.declared.component.RawVariant.{RawVariant}
use Rattle.model_core.specs.declared.component.RawEvent.{RawEvent}
use Rattle.model_core.specs.declared.checked.Checked.TheVariants.{Machine}
use Rattle.model_core.specs.declared.checked.CheckedContext.{CheckedContext}
use Rattle.model_core.specs.declared.checked.CheckedEvent.{CheckedEvent}
use Rattle.model_core.specs.declared.checked.CheckedMachine.{CheckedMachine}
use Rattle.model_core.specs.declared.checked.Labelled.{Labelled}
use Rattle.model_core.specs.Each.{is_among}
use Rattle.model_core.specs.Faults.{first_by_place}
use Rattle.check_rules.specs.Visible.{Visible, nothing, seen_from, of_machine, entries, origins, all_visible, names}
use Rattle.check_rules.specs.Declarations.{declared_twice, brings_clash, labelled_twice}
use Rattle.check_rules.specs.Typed.{Entries, AreTyped, IsTypedVariant, never_typed, in_order}
use Rattle.check_rules.specs.Contexts.{Outcome, names_of, labels_of, unless}
use Rattle.check_rules.specs.Events.{event_declarations, AreTypedEvents}
use Rattle.check_rules.specs.Assignments.{assignment_faults}
use Rattle.check_rules.specs.Refinements.{refinement_faults}

-- a machine as it is written
pub record Written : Type 0 where
  pub name : Ref
  pub sees : List Ref
  pub variables : List Ref
  pub invariants : List RawLabelled
  pub variant : Option RawVariant
  pub events : List RawEvent

-- the variables of the machine that is refined
abbrev pub abstract_variables : Option CheckedMachine → List (List ℕ)
abstract_variables m = option_map_or (λ a. a.variables) m []

abbrev pub abstract_events : Option CheckedMachine → List CheckedEvent
abstract_events m = option_map_or (λ a. a.events) m []

-- what the abstraction gives, and then what the seen contexts do
abbrev pub abstract_view : Option CheckedMachine → Visible
abstract_view m = option_map_or of_machine m nothing

abbrev pub own_names : Written → List (List ℕ)
own_names w = names_of w.variables

-- the variables that the abstraction hasn't
abbrev pub new_variables : Option CheckedMachine → Written → List (List ℕ)
new_variables m w = filter (λ n. not (is_among (abstract_variables m) n)) (own_names w)

-- the variables of the machine that is refined that this one hasn't, in the order of its environment
abbrev pub lost_variables : Option CheckedMachine → Written → List (List ℕ)
lost_variables m w =
    filter (λ n. is_among (abstract_variables m) n && not (is_among (own_names w) n)) (names (entries (abstract_view m).variables))

-- own and lost variables
abbrev pub all_variables : Option CheckedMachine → Written → List (List ℕ)
all_variables m w = own_names w ++ lost_variables m w

-- Kinds 10 and 11. A variable that is kept is no clash.
abbrev pub machine_declarations : Option CheckedMachine → Written → List CheckedContext → List Fault
machine_declarations m w seen =
    brings_clash w.name.name (abstract_view m) (zip w.sees seen)
    ++ declared_twice w.name.name (filter (λ n. not (is_among (abstract_variables m) n)) (names (entries (all_visible (seen_from (abstract_view m) seen))))) w.variables
    ++ labelled_twice w.name.name [] (labels_of w.invariants)
    ++ declared_twice w.name.name [] (map (λ e. e.name) w.events)
    ++ joined (map (event_declarations w.name.name (abstract_events m) (names (entries (all_visible (seen_from (abstract_view m) seen))) ++ own_names w)) w.events)

-- The environment in which the first invariant is typed. Variables lost earlier aren't in it.
abbrev pub machine_env : Option CheckedMachine → Visible → Entries
machine_env m v = entries v.constants ++ filter (λ e. is_among (abstract_variables m) e.0) (entries v.variables)

abbrev pub unrefined : Option CheckedMachine → List CheckedEvent → List (List ℕ)
unrefined m events = filter (λ n. not (is_among (joined (map (λ e. e.refines) events)) n)) (map (λ e. e.name) (abstract_events m))

abbrev pub checked_machine_of : Option CheckedMachine → Written → Visible → Entries → List Labelled → Option Formula → List CheckedEvent → CheckedMachine
checked_machine_of m w v env invariants variant events = record {
  name = w.name.name;
  abstraction = option_map (λ a. a.name) m;
  env = entries v.constants ++ entries v.variables ++ in_order env (new_variables m w);
  env_of = origins v.constants ++ origins v.variables ++ map (λ n. w.name.name) (new_variables m w);
  variables_from = length v.constants;
  axioms = map (λ x. x.0) v.axioms;
  axioms_of = origins v.axioms;
  invariants = option_map_or (λ a. a.invariants) m [] ++ invariants;
  own_from = option_map_or (λ a. length a.invariants) m 0;
  variables = own_names w;
  lost = lost_variables m w;
  variant = variant;
  events = events;
  unrefined = unrefined m events;
}

-- A machine is typed as this one, with these faults of kinds 13 to 16.
abbrev pub IsTypedMachine : Option CheckedMachine → Written → Visible → CheckedMachine → List Fault → Type 0
IsTypedMachine m w v typed faults =
    (invariants : List Labelled) × (invariant_faults : List Fault) × (env : Entries)
    × AreTyped w.name.name (machine_env m v) (new_variables m w) w.invariants invariants invariant_faults env
    × (variant : Option Formula) × (variant_faults : List Fault) × IsTypedVariant w.name.name env w.variant variant variant_faults
    × (events : List CheckedEvent) × (event_faults : List Fault)
    × AreTypedEvents w.name.name (abstract_events m) (all_variables m w) env w.events events event_faults
    × (typed ≡ checked_machine_of m w v env invariants variant events)
    × (faults ≡ invariant_faults ++ never_typed w.name.name env w.variables ++ variant_faults ++ event_faults)

-- kinds 17 to 19
abbrev pub machine_assignments : Option CheckedMachine → Written → CheckedMachine → List Fault
machine_assignments m w c = assignment_faults w.name.name w.name.place (own_names w) (all_variables m w) (zip w.events c.events)

-- kinds 20 to 24
abbrev pub machine_refinements : Option CheckedMachine → Written → CheckedMachine → List Fault
machine_refinements m w c = refinement_faults w.name.name (abstract_events m) (lost_variables m w) w.variant c.variant (zip w.events c.events)

-- Kinds 13 to 16, or else kinds 17 to 24, or else the machine.
abbrev pub ChecksFormulas : Option CheckedMachine → Written → Visible → Outcome → Type 0
ChecksFormulas m w v outcome =
    (typed : CheckedMachine) × (faults : List Fault) × IsTypedMachine m w v typed faults
    × MatchOption (first_by_place faults)
    (unless (machine_assignments m w typed ++ machine_refinements m w typed) (Machine typed) outcome)
    (λ fault. outcome ≡ Err fault)

-- Kinds 10 and 11, or else what the formulas give.
abbrev pub ChecksMachine : Option CheckedMachine → Written → List CheckedContext → Outcome → Type 0
ChecksMachine m w seen outcome =
    MatchOption (first_by_place (machine_declarations m w seen))
    (ChecksFormulas m w (seen_from (abstract_view m) seen) outcome)
    (λ fault. outcome ≡ Err fault)

-- `check_machine`: its first fault of kinds 10 to 16, or the machine and the first fault of kinds 17 to 19.
abbrev pub ChecksFormulasApart : Option CheckedMachine → Written → Visible → Result (CheckedMachine × Option Fault) Fault → Type 0
ChecksFormulasApart m w v answer =
    (typed : CheckedMachine) × (faults : List Fault) × IsTypedMachine m w v typed faults
    × MatchOption (first_by_place faults) (answer ≡ Ok (typed, first_by_place (machine_assignments m w typed))) (λ fault. answer ≡ Err fault)

abbrev pub ChecksMachineApart : Option CheckedMachine → Written → List CheckedContext → Result (CheckedMachine × Option Fault) Fault → Type 0
ChecksMachineApart m w seen answer =
    MatchOption (first_by_place (machine_declarations m w seen))
    (ChecksFormulasApart m w (seen_from (abstract_view m) seen) answer)
    (λ fault. answer ≡ Err fault)
