-- Events that are typed, with the first fault of each. Private contracts alone cite this.
use Rattle.std.specs.Prelude.{◌≡◌, ℕ, Bool, not, ◌&&◌, List, [], ◌++◌, map, length, Option}
use Rattle.std.specs.Borrow.{Bor}
use Rattle.std.specs.BTreeMap.{BTreeMap}
use Rattle.std.specs.BTreeMap as tree
use Rattle.std.specs.BTreeSet.{BTreeSet}
use Rattle.std.specs.Cmp.Lexicographic.{slice_cmp}
use Rattle.std.specs.List.{filter, filter_map}
use Rattle.std.specs.Option.{option_map, option_map_or}
use Rattle.std.specs.Ordering.{nat_cmp}
use Rattle.formula_core.specs.declared.ty.Ty.{Ty}
use Rattle.formula_core.specs.Formulas.{joined}
use Rattle.formula_core.specs.Names.{is_identifier}
use Rattle.type_action.specs.CoreActions.{primed, with_all}
use Rattle.model_core.specs.declared.fault.Fault.{Fault}
use Rattle.model_core.specs.declared.component.RawEvent.{RawEvent}
use Rattle.model_core.specs.declared.component.RawLabelled.{RawLabelled}
use Rattle.model_core.specs.declared.checked.Labelled.{Labelled}
use Rattle.model_core.specs.declared.checked.CheckedEvent.{CheckedEvent}
use Rattle.model_core.specs.Each.{is_among}
use Rattle.model_core.specs.Faults.{first_by_place}
use Rattle.check_rules.specs.Contexts.{names_of}
use Rattle.check_rules.specs.Visible.{names}
use Rattle.check_rules.specs.Typed.{Entries, LabelledAction, in_order}
use Rattle.check_rules.specs.Events.{extended_of, params_inherited, witnesses_of, IsTypedEvent, AreTypedEvents}
use Rattle.model_core.specs.Borrowed.{has}
use Rattle.context_check.specs.Typings.{AreTypedSoFar}

-- the set has these texts and no others
abbrev pub HasExactly : BTreeSet (Bor (List ℕ)) → List (List ℕ) → Type 0
HasExactly set names = (x : List ℕ) → has set x ≡ is_among names x

-- the environment has more names at its end
abbrev pub ExtendsEntries : Entries → Entries → Type 0
ExtendsEntries env last = (rest : Entries) × (last ≡ env ++ rest)

-- the type that a name has in a map
abbrev pub type_of_text : BTreeMap (Bor (List ℕ)) (Bor Ty) → List ℕ → Option Ty
type_of_text types name = option_map (λ t. t.now) (tree.get_by (λ k. slice_cmp nat_cmp name k.now) types)

-- names with their types, of those that have one
abbrev pub typed_there : (List ℕ → Option Ty) → List (List ℕ) → Entries
typed_there there declared = filter_map (λ n. option_map (λ t. (n, t)) (there n)) declared

-- the primed names of the known identifiers, with their types
abbrev pub primed_known : (List ℕ → Bool) → Entries → Entries
primed_known known env = map (λ x. (primed x.0, x.1)) (filter (λ x. is_identifier x.0 && known x.0) env)

abbrev pub guards_in : Option CheckedEvent → List Labelled
guards_in extended = option_map_or (λ a. a.guards) extended []

abbrev pub actions_in : Option CheckedEvent → List LabelledAction
actions_in extended = option_map_or (λ a. a.actions) extended []

-- the environment of an event before its guards, from the events that it refines
abbrev pub event_env_from : List CheckedEvent → RawEvent → Entries → Entries
event_env_from abstract e env =
    with_all (with_all env (params_inherited e abstract)) (in_order (joined (map (λ a. a.params) abstract)) (names_of e.params))

-- the environment of its witnesses, from that of the machine with primed names and what the event adds
abbrev pub witness_env_from : List CheckedEvent → RawEvent → Entries → Entries → Entries
witness_env_from abstract e start added =
    with_all (with_all start added) (filter (λ p. not (is_among (names (params_inherited e abstract) ++ names_of e.params) p.0))
    (joined (map (λ a. a.params) abstract)))

-- an event from those that it refines
abbrev pub event_from : RawEvent → List CheckedEvent → Entries → List Labelled → List Labelled → List LabelledAction → CheckedEvent
event_from e abstract env guards witnesses actions = record {
  name = e.name.name;
  convergence = e.convergence;
  refines = map (λ a. a.name) abstract;
  params = params_inherited e abstract ++ in_order env (names_of e.params);
  guards = guards_in (extended_of e abstract) ++ guards;
  own_guards_from = length (guards_in (extended_of e abstract));
  witnesses = witnesses_of witnesses;
  actions = actions_in (extended_of e abstract) ++ actions;
  own_actions_from = length (actions_in (extended_of e abstract));
}

-- the witnesses are typed in the environment
abbrev pub AreTypedWitnesses : List ℕ → Entries → List RawLabelled → List Labelled → Option Fault → Type 0
AreTypedWitnesses component env written typed first = (same : Entries) × AreTypedSoFar component env [] written typed first same

abbrev pub IsTypedSoFar : List ℕ → List CheckedEvent → List (List ℕ) → Entries → RawEvent → CheckedEvent → Option Fault → Type 0
IsTypedSoFar component m variables env e typed first =
    (faults : List Fault) × IsTypedEvent component m variables env e typed faults × (first ≡ first_by_place faults)

abbrev pub AreTypedEventsSoFar : List ℕ → List CheckedEvent → List (List ℕ) → Entries → List RawEvent → List CheckedEvent → Option Fault → Type 0
AreTypedEventsSoFar component m variables env events typed first =
    (faults : List Fault) × AreTypedEvents component m variables env events typed faults × (first ≡ first_by_place faults)
