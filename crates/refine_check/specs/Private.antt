-- What only private contracts cite.
use Rattle.std.specs.Prelude.{◌≡◌, ℕ, suc, min, Bool, true, false, not, Option, Some, None, ◌&&◌, ◌==◌, nat_le, if◌then◌else◌, List, [], ◌∷◌, ◌++◌, map, length, slice_get}
use Rattle.std.specs.Borrow.{Bor}
use Rattle.std.specs.BTreeMap.{BTreeMap}
use Rattle.std.specs.BTreeMap as tree
use Rattle.std.specs.Cmp.Lexicographic.{slice_cmp}
use Rattle.std.specs.List.{filter}
use Rattle.std.specs.Option.{option_and_then, option_map, option_map_or}
use Rattle.std.specs.Ordering.{nat_cmp}
use Rattle.formula_core.specs.declared.raw.Ref.{Ref}
use Rattle.formula_core.specs.declared.ty.Ty.{Ty}
use Rattle.formula_core.specs.Types.{same_type}
use Rattle.formula_core.specs.Formulas.{joined}
use Rattle.type_action.specs.CoreActions.{primed}
use Rattle.model_core.specs.declared.fault.Fault.{Fault}
use Rattle.model_core.specs.declared.fault.FaultKind.TheVariants as kind
use Rattle.model_core.specs.declared.component.RawEvent.{RawEvent}
use Rattle.model_core.specs.declared.checked.CheckedEvent.{CheckedEvent}
use Rattle.model_core.specs.declared.checked.CheckedMachine.{CheckedMachine}
use Rattle.model_core.specs.Each.{at_each, is_among}
use Rattle.model_core.specs.Faults.{fault_at}
use Rattle.refine_check.specs.declared.param_types.Known.{Known}
use Rattle.refine_check.specs.declared.param_types.Known.TheVariants.{One, Several}
use Rattle.check_rules.specs.Visible.{names, entries, of_machine}
use Rattle.check_rules.specs.Contexts.{names_of}
use Rattle.check_rules.specs.Events.{RefinedAt, refined_at, params_inherited}
use Rattle.check_rules.specs.Assignments.{BothEvents}
use Rattle.check_rules.specs.Refinements.{no_abstract_events, has_other_type, merged_differ_row, without_labels, all_chosen, missing_witnesses, superfluous_witnesses, lost_in_own, lost_in_inherited, converges_badly}

-- the first place whose element passes
abbrev pub first_index : {X : Type 0} → (X → Bool) → List X → Option ℕ
first_index test [] = None
first_index test (x ∷ xs) = if test x then Some 0 else option_map suc (first_index test xs)

-- the lower of two places
abbrev pub lower : Option ℕ → Option ℕ → Option ℕ
lower None other = other
lower (Some one) None = Some one
lower (Some one) (Some other) = Some (min one other)

-- the place that a text has in a map
abbrev pub index_in : BTreeMap (Bor (List ℕ)) ℕ → List ℕ → Option ℕ
index_in places text = tree.get_by (λ k. slice_cmp nat_cmp text k.now) places

-- the text at a place, if there is one
abbrev pub text_at : List (List ℕ) → Option ℕ → Option (List ℕ)
text_at names place = option_and_then (slice_get names) place

-- the name and the place of a reference
abbrev pub used_at : Ref → List ℕ × ℕ
used_at r = (r.name, r.place)

-- the variables of a machine that aren't among these
abbrev pub lost_of : CheckedMachine → List (List ℕ) → List (List ℕ)
lost_of m own = filter (λ n. is_among m.variables n && not (is_among own n)) (names (entries (of_machine m).variables))

-- In what follows, `abstract` are the events that an event refines or extends.
abbrev pub kept_params : List CheckedEvent → RawEvent → List (List ℕ)
kept_params abstract e = names (params_inherited e abstract) ++ names_of e.params

abbrev pub all_params : List CheckedEvent → List (List ℕ)
all_params abstract = names (joined (map (λ a. a.params) abstract))

abbrev pub lost_param_names : List (List ℕ) → List CheckedEvent → List (List ℕ)
lost_param_names kept abstract = filter (λ p. not (is_among kept p)) (all_params abstract)

abbrev pub chosen_first : List CheckedEvent → List (List ℕ)
chosen_first abstract = all_chosen (option_map_or (λ a. without_labels a.actions) (slice_get abstract 0) [])

abbrev pub needed_params_of : List CheckedEvent → List (List ℕ) → RawEvent → List (List ℕ)
needed_params_of abstract kept e = if length e.refines == 1 && not e.extended then lost_param_names kept abstract else []

abbrev pub needed_of : List CheckedEvent → List (List ℕ) → List (List ℕ) → RawEvent → List (List ℕ)
needed_of abstract kept lost e = needed_params_of abstract kept e ++ map primed (filter (is_among (chosen_first abstract)) lost)

-- what `differs_in_merge` gives, by references to events
abbrev pub found_at : List (Bor Ref × Bor CheckedEvent) → List RefinedAt
found_at found = map (λ x. (x.0.now, x.1.now)) found

-- whether a parameter of these types has another one
abbrev pub is_other_type : Option Known → Ty → Bool
is_other_type None t = false
is_other_type (Some (One u)) t = not (same_type u.now t)
is_other_type (Some Several) t = true

-- whether a parameter has another type there
abbrev pub is_other_there : BTreeMap (Bor (List ℕ)) Known → List ℕ × Ty → Bool
is_other_there types p = is_other_type (tree.get_by (λ k. slice_cmp nat_cmp p.0 k.now) types) p.1

-- the types are those of these events' parameters
abbrev pub HasTypesOf : BTreeMap (Bor (List ℕ)) Known → List RefinedAt → Type 0
HasTypesOf types before = (p : List ℕ × Ty) → is_other_there types p ≡ has_other_type (joined (map (λ b. b.1.params) before)) p

abbrev pub merged_differ_of : List ℕ → List CheckedEvent → List (List ℕ) → RawEvent → List Fault
merged_differ_of component m kept e = if nat_le 2 (length e.refines) then at_each (merged_differ_row component kept) [] (refined_at m e) else []

abbrev pub bad_witnesses_of : List ℕ → List (List ℕ) → RawEvent → List Fault
bad_witnesses_of component wanted e =
    missing_witnesses component e.name.place (map (λ w. w.label) e.witnesses) wanted ++ superfluous_witnesses component wanted e.witnesses

abbrev pub bad_convergence_of : List ℕ → List CheckedEvent → Bool → RawEvent → List Fault
bad_convergence_of component abstract has_variant e = if converges_badly has_variant abstract e then fault_at component kind.BadConvergence e.name.place [] ∷ [] else []

-- kinds 20 to 24 of an event
abbrev pub event_row : List ℕ → List CheckedEvent → List CheckedEvent → List (List ℕ) → Bool → BothEvents → List Fault
event_row component m abstract lost has_variant e =
    no_abstract_events component m e.0
    ++ merged_differ_of component m (kept_params abstract e.0) e.0
    ++ bad_witnesses_of component (needed_of abstract (kept_params abstract e.0) lost e.0) e.0
    ++ lost_in_own component lost e.0
    ++ lost_in_inherited component lost e
    ++ bad_convergence_of component abstract has_variant e.0
