-- What a machine owes to its abstraction: kinds 20 to 24.
use Rattle.std.specs.Prelude.{ℕ, Bool, true, false, not, ◌||◌, ◌&&◌, ◌==◌, nat_le, if◌then◌else◌, List, [], ◌∷◌, ◌++◌, map, take, length, bytes_eq, Option, is_some, slice_get}
use Rattle.std.specs.List.{filter, list_any, list_all, zip}
use Rattle.std.specs.Option.{option_map_or, option_to_list}
use Rattle.formula_core.specs.declared.raw.Ref.{Ref}
use Rattle.formula_core.specs.declared.raw.Raw.{Raw}
use Rattle.formula_core.specs.declared.raw.Action.{Action}
use Rattle.formula_core.specs.declared.raw.Action.TheVariants as action
use Rattle.formula_core.specs.declared.formula.Formula.{Formula}
use Rattle.formula_core.specs.declared.ty.Ty.{Ty}
use Rattle.formula_core.specs.Formulas.{joined}
use Rattle.formula_core.specs.Types.{same_type, is_integer, members}
use Rattle.formula_core.specs.Wellness.{type_of}
use Rattle.type_formula.specs.CoreForms.{core_form}
use Rattle.type_formula.specs.Unknowns.{unknowns}
use Rattle.type_action.specs.CoreActions.{primed, core_action, unknowns_of}
use Rattle.model_core.specs.declared.fault.Fault.{Fault}
use Rattle.model_core.specs.declared.fault.FaultKind.TheVariants as kind
use Rattle.model_core.specs.Components.{is_ordinary, is_convergent, is_anticipated}
use Rattle.model_core.specs.declared.component.RawEvent.{RawEvent}
use Rattle.model_core.specs.declared.component.RawLabelled.{RawLabelled}
use Rattle.model_core.specs.declared.component.RawVariant.{RawVariant}
use Rattle.model_core.specs.declared.checked.CheckedEvent.{CheckedEvent}
use Rattle.model_core.specs.Each.{at_each, is_among}
use Rattle.model_core.specs.Faults.{fault_at}
use Rattle.check_rules.specs.Visible.{names}
use Rattle.check_rules.specs.Typed.{Entries, LabelledAction}
use Rattle.formula_core.specs.Same.{same_actions}
use Rattle.check_rules.specs.Events.{initialisation, is_initialisation, event_named, RefinedAt, refined_at, refined, param_names}
use Rattle.check_rules.specs.Assignments.{BothEvents, all_assigned, free_names_of, names_on_right}

-- INITIALISATION refines INITIALISATION, and no other event does.
abbrev pub is_paired : RawEvent → Ref → Bool
is_paired e r = if is_initialisation e then bytes_eq r.name initialisation else not (bytes_eq r.name initialisation)

-- `no abstract event NAME`: it isn't in the abstraction, or is INITIALISATION paired with another event
abbrev pub no_abstract_event_row : List ℕ → List CheckedEvent → RawEvent → Ref → List Fault
no_abstract_event_row component m e r =
    if is_some (event_named m r.name) && is_paired e r then [] else (fault_at component kind.NoAbstractEvent r.place r.name ∷ [])

abbrev pub no_abstract_events : List ℕ → List CheckedEvent → RawEvent → List Fault
no_abstract_events component m e = joined (map (no_abstract_event_row component m e) e.refines)

-- the actions, but for their labels
abbrev pub without_labels : List LabelledAction → List Action
without_labels actions = map (λ a. a.1) actions

-- the actions of the first of the refined events
abbrev pub first_actions : List RefinedAt → RefinedAt → List Action
first_actions [] x = without_labels x.1.actions
first_actions (y ∷ before) x = without_labels y.1.actions

-- whether a parameter stands among these with another type
abbrev pub has_other_type : Entries → List ℕ × Ty → Bool
has_other_type earlier p = list_any (λ q. bytes_eq q.0 p.0 && not (same_type q.1 p.1)) earlier

-- Of several refined events: other actions than the first has, a parameter that isn't kept, or one that an earlier event has with another type.
abbrev pub differs_in_merge : List (List ℕ) → List RefinedAt → RefinedAt → Bool
differs_in_merge kept before x =
    not (same_actions (first_actions before x) (without_labels x.1.actions))
    || not (list_all (is_among kept) (names x.1.params))
    || list_any (has_other_type (joined (map (λ b. b.1.params) before))) x.1.params

-- `merged events differ`, at the reference
abbrev pub merged_differ_row : List ℕ → List (List ℕ) → List RefinedAt → RefinedAt → List Fault
merged_differ_row component kept before x = if differs_in_merge kept before x then fault_at component kind.MergedDiffer x.0.place [] ∷ [] else []

abbrev pub merged_differ : List ℕ → List CheckedEvent → RawEvent → List Fault
merged_differ component m e = if nat_le 2 (length e.refines) then at_each (merged_differ_row component (param_names m e)) [] (refined_at m e) else []

-- the variables that an action assigns nondeterministically
abbrev pub chosen : Action → List (List ℕ)
chosen (action.Assign ps) = []
chosen (action.ChooseIn x f) = x ∷ []
chosen (action.ChooseSuch xs f) = names xs

abbrev pub all_chosen : List Action → List (List ℕ)
all_chosen actions = joined (map chosen actions)

-- the abstract event's actions: of several refined events those of the first
abbrev pub abstract_actions : List CheckedEvent → RawEvent → List Action
abstract_actions m e = option_map_or (λ a. without_labels a.actions) (slice_get (refined m e) 0) []

-- Parameters that the one event that is refined, not extended, has and this event lacks.
abbrev pub needed_params : List CheckedEvent → RawEvent → List (List ℕ)
needed_params m e =
    if length e.refines == 1 && not e.extended then filter (λ p. not (is_among (param_names m e) p)) (names (joined (map (λ a. a.params) (refined m e)))) else []

-- the names that want a witness: such parameters, and the primed names of lost variables that the abstract event assigns nondeterministically
abbrev pub needed_witnesses : List CheckedEvent → List (List ℕ) → RawEvent → List (List ℕ)
needed_witnesses m lost e = needed_params m e ++ map primed (filter (is_among (all_chosen (abstract_actions m e))) lost)

-- `bad witness NAME`: missing, at the event's name
abbrev pub missing_witness_row : List ℕ → ℕ → List (List ℕ) → List (List ℕ) → List ℕ → List Fault
missing_witness_row component event labels before n = if is_among labels n then [] else (fault_at component kind.BadWitness event n ∷ [])

abbrev pub missing_witnesses : List ℕ → ℕ → List (List ℕ) → List (List ℕ) → List Fault
missing_witnesses component event labels wanted = at_each (missing_witness_row component event labels) [] wanted

-- `bad witness NAME`: superfluous, at its label
abbrev pub superfluous_witness_row : List ℕ → List (List ℕ) → List RawLabelled → RawLabelled → List Fault
superfluous_witness_row component wanted before w = if is_among wanted w.label then [] else (fault_at component kind.BadWitness w.place w.label ∷ [])

abbrev pub superfluous_witnesses : List ℕ → List (List ℕ) → List RawLabelled → List Fault
superfluous_witnesses component wanted witnesses = at_each (superfluous_witness_row component wanted) [] witnesses

abbrev pub bad_witnesses : List ℕ → List CheckedEvent → List (List ℕ) → RawEvent → List Fault
bad_witnesses component m lost e =
    missing_witnesses component e.name.place (map (λ w. w.label) e.witnesses) (needed_witnesses m lost e) ++ superfluous_witnesses component (needed_witnesses m lost e) e.witnesses

-- `NAME is lost`: each of these names that is that of a lost variable, at its place
abbrev pub lost_among : List ℕ → List (List ℕ) → List (List ℕ × ℕ) → List Fault
lost_among component lost used = map (λ u. fault_at component kind.Lost u.1 u.0) (filter (λ u. is_among lost u.0) used)

-- the names of a written formula that aren't bound, with their places
abbrev pub unknowns_in : Raw → List (List ℕ × ℕ)
unknowns_in f = unknowns [] [] [] (core_form f)

-- `NAME is lost`: in own guards and actions
abbrev pub lost_in_own : List ℕ → List (List ℕ) → RawEvent → List Fault
lost_in_own component lost e =
    joined (map (λ g. lost_among component lost (unknowns_in g.formula)) e.guards)
    ++ joined (map (λ s. lost_among component lost (unknowns_of [] (core_action s.action))) e.actions)

-- the names in the inherited guards and actions of an event
abbrev pub inherited_names : CheckedEvent → List (List ℕ)
inherited_names c =
    joined (map (λ g. free_names_of g.formula) (take c.own_guards_from c.guards))
    ++ all_assigned (take c.own_actions_from c.actions)
    ++ joined (map (λ a. names_on_right a.1) (take c.own_actions_from c.actions))

-- `NAME is lost`: in an inherited part, at the event's name
abbrev pub lost_in_inherited : List ℕ → List (List ℕ) → BothEvents → List Fault
lost_in_inherited component lost e = map (fault_at component kind.Lost e.0.name.place) (filter (is_among (inherited_names e.1)) lost)

abbrev pub lost_in_variant : List ℕ → List (List ℕ) → Option RawVariant → List Fault
lost_in_variant component lost variant =
    option_map_or (λ v. lost_among component lost (unknowns_in v.formula)) variant []

-- Convergent without variant, unless it has refined events and all of them are convergent.
abbrev pub lacks_variant : Bool → List CheckedEvent → RawEvent → Bool
lacks_variant has_variant abstract e =
    is_convergent e.convergence && not has_variant && not (nat_le 1 (length abstract) && list_all (λ a. is_convergent a.convergence) abstract)

abbrev pub converges_badly : Bool → List CheckedEvent → RawEvent → Bool
converges_badly has_variant abstract e =
    lacks_variant has_variant abstract e
    || not (is_ordinary e.convergence) && list_any (λ a. is_ordinary a.convergence) abstract
    || is_ordinary e.convergence && list_any (λ a. is_anticipated a.convergence) abstract
    || is_initialisation e && not (is_ordinary e.convergence)

-- `bad convergence`, at the event's name
abbrev pub bad_convergence : List ℕ → List CheckedEvent → Bool → RawEvent → List Fault
bad_convergence component m has_variant e = if converges_badly has_variant (refined m e) e then fault_at component kind.BadConvergence e.name.place [] ∷ [] else []

-- `bad convergence`: a variant that is neither an integer nor a set, at its first token
abbrev pub bad_variant_row : List ℕ → RawVariant × Formula → List Fault
bad_variant_row component v = if is_integer (type_of v.1) || is_some (members (type_of v.1)) then [] else (fault_at component kind.BadConvergence v.0.first [] ∷ [])

abbrev pub bad_variant : List ℕ → Option RawVariant → Option Formula → List Fault
bad_variant component written typed = joined (map (bad_variant_row component) (zip (option_to_list written) (option_to_list typed)))

abbrev pub refinement_row : List ℕ → List CheckedEvent → List (List ℕ) → Bool → BothEvents → List Fault
refinement_row component m lost has_variant e =
    no_abstract_events component m e.0
    ++ merged_differ component m e.0
    ++ bad_witnesses component m lost e.0
    ++ lost_in_own component lost e.0
    ++ lost_in_inherited component lost e
    ++ bad_convergence component m has_variant e.0

-- Kinds 20 to 24.
abbrev pub refinement_faults : List ℕ → List CheckedEvent → List (List ℕ) → Option RawVariant → Option Formula → List BothEvents → List Fault
refinement_faults component m lost written typed events =
    lost_in_variant component lost written
    ++ bad_variant component written typed
    ++ joined (map (refinement_row component m lost (is_some written)) events)
