-- Events beside those that they refine or extend: what is inherited, what is known where, and what is typed.
use Rattle.std.specs.Prelude.{◌≡◌, ℕ, Bool, not, ◌&&◌, ◌==◌, if◌then◌else◌, List, [], ◌∷◌, ◌++◌, map, length, bytes_eq, codes, Option, None, slice_get}
use Rattle.std.specs.List.{filter, filter_map}
use Rattle.std.specs.Option.{option_map, option_map_or, option_to_list}
use Rattle.std.specs.Map.{lookup}
use Rattle.formula_core.specs.declared.raw.Ref.{Ref}
use Rattle.formula_core.specs.declared.formula.Formula.{Formula}
use Rattle.formula_core.specs.Formulas.{joined}
use Rattle.formula_core.specs.Names.{is_name, is_identifier}
use Rattle.type_action.specs.CoreActions.{primed, with_all}
use Rattle.model_core.specs.declared.fault.Fault.{Fault}
use Rattle.model_core.specs.declared.fault.FaultKind.TheVariants as kind
use Rattle.model_core.specs.declared.component.RawEvent.{RawEvent}
use Rattle.model_core.specs.declared.checked.Labelled.{Labelled}
use Rattle.model_core.specs.declared.checked.CheckedEvent.{CheckedEvent}
use Rattle.model_core.specs.Each.{at_each, is_among}
use Rattle.model_core.specs.Faults.{fault_at}
use Rattle.check_rules.specs.Visible.{names}
use Rattle.check_rules.specs.Declarations.{LabelAt, declared_twice, labelled_twice}
use Rattle.check_rules.specs.Typed.{Entries, LabelledAction, AreTyped, AreTypedActions, never_typed, in_order}
use Rattle.check_rules.specs.Contexts.{names_of, labels_of}

abbrev pub initialisation : List ℕ
initialisation = codes "INITIALISATION"

abbrev pub is_initialisation : RawEvent → Bool
is_initialisation e = bytes_eq e.name.name initialisation

-- In what follows, `m` are the events of the abstraction.
abbrev pub event_named : List CheckedEvent → List ℕ → Option CheckedEvent
event_named m name = lookup (bytes_eq name) (map (λ e. (e.name, e)) m)

-- a reference of an event, with the abstract event of that name
abbrev pub RefinedAt : Type 0
RefinedAt = Ref × CheckedEvent

abbrev pub with_event : List CheckedEvent → Ref → Option RefinedAt
with_event m r = option_map (λ a. (r, a)) (event_named m r.name)

abbrev pub refined_at : List CheckedEvent → RawEvent → List RefinedAt
refined_at m e = filter_map (with_event m) e.refines

-- INITIALISATION refines INITIALISATION also where nothing is written.
abbrev pub implied_events : List CheckedEvent → RawEvent → List CheckedEvent
implied_events m e =
    if is_initialisation e && length e.refines == 0 then option_to_list (event_named m initialisation) else []

-- the abstract events that an event refines or extends, of those that are there
abbrev pub refined : List CheckedEvent → RawEvent → List CheckedEvent
refined m e = map (λ x. x.1) (refined_at m e) ++ implied_events m e

-- the one that it extends, of those that it refines or extends
abbrev pub extended_of : RawEvent → List CheckedEvent → Option CheckedEvent
extended_of e abstract = if e.extended then slice_get abstract 0 else None

abbrev pub inherited : List CheckedEvent → RawEvent → Option CheckedEvent
inherited m e = extended_of e (refined m e)

abbrev pub params_inherited : RawEvent → List CheckedEvent → Entries
params_inherited e abstract = option_map_or (λ a. a.params) (extended_of e abstract) []

abbrev pub inherited_params : List CheckedEvent → RawEvent → Entries
inherited_params m e = params_inherited e (refined m e)

abbrev pub inherited_guards : List CheckedEvent → RawEvent → List Labelled
inherited_guards m e = option_map_or (λ a. a.guards) (inherited m e) []

abbrev pub inherited_actions : List CheckedEvent → RawEvent → List LabelledAction
inherited_actions m e = option_map_or (λ a. a.actions) (inherited m e) []

abbrev pub inherited_labels : List CheckedEvent → RawEvent → List (List ℕ)
inherited_labels m e = map (λ l. l.label) (inherited_guards m e) ++ map (λ a. a.0) (inherited_actions m e)

-- the parameters of an event, inherited ones first
abbrev pub param_names : List CheckedEvent → RawEvent → List (List ℕ)
param_names m e = names (inherited_params m e) ++ names_of e.params

-- the parameters of the refined events, in order
abbrev pub abstract_params : List CheckedEvent → RawEvent → Entries
abstract_params m e = joined (map (λ a. a.params) (refined m e))

-- The parameters that a refined event has and this event lacks. Of several with one name the first counts.
abbrev pub lost_params : List CheckedEvent → RawEvent → Entries
lost_params m e = filter (λ p. not (is_among (param_names m e) p.0)) (abstract_params m e)

-- `NAME is declared twice`: a parameter of a refined event that is known here, at the reference
abbrev pub param_clash_row : List ℕ → List (List ℕ) → List RefinedAt → RefinedAt → List Fault
param_clash_row component known before x = map (λ p. fault_at component kind.DeclaredTwice x.0.place p) (filter (is_among known) (names x.1.params))

abbrev pub param_clashes : List ℕ → List (List ℕ) → List RefinedAt → List Fault
param_clashes component known refs = at_each (param_clash_row component known) [] refs

abbrev pub event_labels : RawEvent → List LabelAt
event_labels e = labels_of e.guards ++ labels_of e.witnesses ++ map (λ s. (s.label, s.place)) e.actions

-- kinds 10 and 11 of an event, where these carrier sets, constants and variables are known
abbrev pub event_declarations : List ℕ → List CheckedEvent → List (List ℕ) → RawEvent → List Fault
event_declarations component m known e =
    param_clashes component known (refined_at m e)
    ++ declared_twice component (known ++ names (inherited_params m e)) e.params
    ++ labelled_twice component (inherited_labels m e) (event_labels e)

-- The environment of an event before its guards: inherited parameters, and own ones that a refined event has, with the type of the first.
abbrev pub event_env : List CheckedEvent → RawEvent → Entries → Entries
event_env m e env = with_all (with_all env (inherited_params m e)) (in_order (abstract_params m e) (names_of e.params))

abbrev pub primed_variables : Entries → List (List ℕ) → Entries
primed_variables env variables = map (λ x. (primed x.0, x.1)) (filter (λ x. is_identifier x.0 && is_among variables x.0) env)

-- the environment of a machine with the primed names of own and lost variables
abbrev pub primed_env : Entries → List (List ℕ) → Entries
primed_env env variables = with_all env (primed_variables env variables)

-- The environment of an event's witnesses: that of the machine with primed names, what stands behind the event's guards, and lost parameters.
abbrev pub witness_env : List CheckedEvent → RawEvent → List (List ℕ) → Entries → Entries → Entries
witness_env m e variables env last = with_all (with_all (primed_env env variables) last) (lost_params m e)

-- a witness is for a name
abbrev pub witnesses_of : List Labelled → List (List ℕ × Formula)
witnesses_of witnesses = map (λ w. (w.label, w.formula)) (filter (λ w. is_name w.label) witnesses)

abbrev pub checked_event_of : List CheckedEvent → RawEvent → Entries → List Labelled → List Labelled → List LabelledAction → CheckedEvent
checked_event_of m e env guards witnesses actions = record {
  name = e.name.name;
  convergence = e.convergence;
  refines = map (λ a. a.name) (refined m e);
  params = inherited_params m e ++ in_order env (names_of e.params);
  guards = inherited_guards m e ++ guards;
  own_guards_from = length (inherited_guards m e);
  witnesses = witnesses_of witnesses;
  actions = inherited_actions m e ++ actions;
  own_actions_from = length (inherited_actions m e);
}

-- an event is typed as this one, with these faults of kinds 13 to 16
abbrev pub IsTypedEvent : List ℕ → List CheckedEvent → List (List ℕ) → Entries → RawEvent → CheckedEvent → List Fault → Type 0
IsTypedEvent component m variables env e typed faults =
    (guards : List Labelled) × (guard_faults : List Fault) × (last : Entries)
    × AreTyped component (event_env m e env) (names_of e.params) e.guards guards guard_faults last
    × (witnesses : List Labelled) × (witness_faults : List Fault) × (same : Entries)
    × AreTyped component (witness_env m e variables env last) [] e.witnesses witnesses witness_faults same
    × (actions : List LabelledAction) × (action_faults : List Fault)
    × AreTypedActions component last e.actions actions action_faults
    × (typed ≡ checked_event_of m e last guards witnesses actions)
    × (faults ≡ guard_faults ++ never_typed component last e.params ++ witness_faults ++ action_faults)

abbrev pub AreTypedEvents : List ℕ → List CheckedEvent → List (List ℕ) → Entries → List RawEvent → List CheckedEvent → List Fault → Type 0
AreTypedEvents component m variables env [] typed faults = (typed ≡ []) × (faults ≡ [])
AreTypedEvents component m variables env (e ∷ events) typed faults =
    (one : CheckedEvent) × (here : List Fault) × (others : List CheckedEvent) × (later : List Fault)
    × IsTypedEvent component m variables env e one here × AreTypedEvents component m variables env events others later
    × (typed ≡ one ∷ others) × (faults ≡ here ++ later)
