-- What events may assign: kinds 17 to 19.
use Rattle.std.specs.Prelude.{ℕ, Bool, not, ◌||◌, ◌==◌, if◌then◌else◌, List, [], ◌∷◌, ◌++◌, map, take, drop, length}
use Rattle.std.specs.List.{filter, list_any, list_all, zip}
use Rattle.formula_core.specs.declared.raw.Ref.{Ref}
use Rattle.formula_core.specs.declared.raw.RawAction.{RawAction}
use Rattle.formula_core.specs.declared.raw.RawAction.TheVariants as raw
use Rattle.formula_core.specs.declared.raw.Action.{Action}
use Rattle.formula_core.specs.declared.raw.Action.TheVariants as action
use Rattle.formula_core.specs.declared.formula.Formula.{Formula}
use Rattle.formula_core.specs.Formulas.{free_of, joined}
use Rattle.model_core.specs.declared.fault.Fault.{Fault}
use Rattle.model_core.specs.declared.fault.FaultKind.TheVariants as kind
use Rattle.model_core.specs.declared.component.RawEvent.{RawEvent}
use Rattle.model_core.specs.declared.component.RawStep.{RawStep}
use Rattle.model_core.specs.declared.checked.CheckedEvent.{CheckedEvent}
use Rattle.model_core.specs.Each.{at_each, is_among}
use Rattle.model_core.specs.Faults.{fault_at}
use Rattle.check_rules.specs.Visible.{names}
use Rattle.check_rules.specs.Typed.{LabelledAction, first_token_of_action}
use Rattle.check_rules.specs.Events.{is_initialisation}

-- an event as it is written, and as it is typed
abbrev pub BothEvents : Type 0
BothEvents = RawEvent × CheckedEvent

abbrev pub written_targets : RawAction → List Ref
written_targets (raw.Assign targets values) = targets
written_targets (raw.Apply target x e) = target ∷ []
written_targets (raw.ChooseIn target set) = target ∷ []
written_targets (raw.ChooseSuch targets p) = targets

abbrev pub targets_in : RawEvent → List Ref
targets_in e = joined (map (λ s. written_targets s.action) e.actions)

-- the names that an action assigns
abbrev pub assigned : Action → List (List ℕ)
assigned (action.Assign ps) = map (λ p. p.0) ps
assigned (action.ChooseIn x f) = x ∷ []
assigned (action.ChooseSuch xs f) = names xs

abbrev pub all_assigned : List LabelledAction → List (List ℕ)
all_assigned actions = joined (map (λ a. assigned a.1) actions)

-- the formulas on the right side of an action
abbrev pub right_sides : Action → List Formula
right_sides (action.Assign ps) = map (λ p. p.1) ps
right_sides (action.ChooseIn x f) = f ∷ []
right_sides (action.ChooseSuch xs f) = f ∷ []

abbrev pub free_names_of : Formula → List (List ℕ)
free_names_of f = names (free_of f)

abbrev pub names_on_right : Action → List (List ℕ)
names_on_right a = joined (map free_names_of (right_sides a))

-- `NAME is no variable`: a target that is neither an own variable nor a lost one
abbrev pub no_variable_row : List ℕ → List (List ℕ) → List Ref → Ref → List Fault
no_variable_row component variables before r = if is_among variables r.name then [] else (fault_at component kind.NoVariable r.place r.name ∷ [])

-- `NAME is assigned twice`: a target that an inherited action has, or that stands before it in its event
abbrev pub assigned_twice_row : List ℕ → List (List ℕ) → List Ref → Ref → List Fault
assigned_twice_row component by_inherited before r =
    if is_among by_inherited r.name || is_among (map (λ b. b.name) before) r.name then fault_at component kind.AssignedTwice r.place r.name ∷ [] else []

-- what the inherited actions of an event assign
abbrev pub inherited_targets : CheckedEvent → List (List ℕ)
inherited_targets c = all_assigned (take c.own_actions_from c.actions)

abbrev pub no_variables : List ℕ → List (List ℕ) → List RawEvent → List Fault
no_variables component variables events = joined (map (λ e. at_each (no_variable_row component variables) [] (targets_in e)) events)

abbrev pub assigned_twice : List ℕ → List BothEvents → List Fault
assigned_twice component events = joined (map (λ e. at_each (assigned_twice_row component (inherited_targets e.1)) [] (targets_in e.0)) events)

abbrev pub is_bad_start : List (List ℕ) → CheckedEvent → Bool
is_bad_start own c = not (length c.params == 0) || not (length c.guards == 0) || not (list_all (is_among (all_assigned c.actions)) own)

-- `bad INITIALISATION`: an action whose right side has a variable without prime
abbrev pub reads_variable_row : List ℕ → List (List ℕ) → RawStep × LabelledAction → List Fault
reads_variable_row component variables s =
    if list_any (is_among variables) (names_on_right s.1.1) then fault_at component kind.BadInitialisation (first_token_of_action s.0.action) [] ∷ [] else []

-- `bad INITIALISATION`: parameters or guards, a variable that isn't assigned, and actions that read variables
abbrev pub bad_start_row : List ℕ → List (List ℕ) → List (List ℕ) → BothEvents → List Fault
bad_start_row component own variables e =
    (if is_bad_start own e.1 then fault_at component kind.BadInitialisation e.0.name.place [] ∷ [] else [])
    ++ joined (map (reads_variable_row component variables) (zip e.0.actions (drop e.1.own_actions_from e.1.actions)))

-- `bad INITIALISATION`: there is none
abbrev pub no_start : List ℕ → ℕ → List BothEvents → List Fault
no_start component heading [] = fault_at component kind.BadInitialisation heading [] ∷ []
no_start component heading (e ∷ events) = []

abbrev pub bad_starts : List ℕ → ℕ → List (List ℕ) → List (List ℕ) → List BothEvents → List Fault
bad_starts component heading own variables starts =
    no_start component heading starts ++ joined (map (bad_start_row component own variables) starts)

-- Kinds 17 to 19, where `variables` are the own ones and the lost ones.
abbrev pub assignment_faults : List ℕ → ℕ → List (List ℕ) → List (List ℕ) → List BothEvents → List Fault
assignment_faults component heading own variables events =
    no_variables component variables (map (λ e. e.0) events)
    ++ assigned_twice component events
    ++ bad_starts component heading own variables (filter (λ e. is_initialisation e.0) events)
