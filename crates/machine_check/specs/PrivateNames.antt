-- Names and labels of events, as the code goes through them. Private contracts alone cite this.
use Rattle.std.specs.Prelude.{ℕ, Bool, ◌||◌, if◌then◌else◌, List, [], ◌∷◌, ◌++◌, map}
use Rattle.std.specs.Option.{option_map_or}
use Rattle.formula_core.specs.declared.raw.Ref.{Ref}
use Rattle.formula_core.specs.declared.ty.Ty.{Ty}
use Rattle.formula_core.specs.Formulas.{joined}
use Rattle.model_core.specs.declared.component.RawEvent.{RawEvent}
use Rattle.model_core.specs.declared.component.RawStep.{RawStep}
use Rattle.model_core.specs.declared.checked.CheckedEvent.{CheckedEvent}
use Rattle.model_core.specs.declared.fault.Fault.{Fault}
use Rattle.model_core.specs.declared.fault.FaultKind.TheVariants as kind
use Rattle.model_core.specs.Each.{is_among}
use Rattle.model_core.specs.Faults.{fault_at}
use Rattle.check_rules.specs.Visible.{names}
use Rattle.check_rules.specs.Declarations.{LabelAt}
use Rattle.check_rules.specs.Events.{event_named, inherited_params, inherited_labels, event_labels}
use Rattle.context_check.specs.Texts.{ref_mark, repeated}

abbrev pub step_mark : RawStep → LabelAt
step_mark s = (s.label, s.place)

-- a parameter that is known, at the reference to its event
abbrev pub clash_of : List ℕ → (List ℕ → Bool) → ℕ → List ℕ × Ty → List Fault
clash_of component known place p = if known p.0 then fault_at component kind.DeclaredTwice place p.0 ∷ [] else []

abbrev pub clash_at : List ℕ → List CheckedEvent → (List ℕ → Bool) → Ref → List Fault
clash_at component m known r = option_map_or (λ a. joined (map (clash_of component known r.place) a.params)) (event_named m r.name) []

-- kinds 10 and 11 of an event
abbrev pub declared_in : List ℕ → List CheckedEvent → (List ℕ → Bool) → RawEvent → List Fault
declared_in component m known e =
    joined (map (clash_at component m known) e.refines)
    ++ repeated kind.DeclaredTwice component (λ x. known x || is_among (names (inherited_params m e)) x) (map ref_mark e.params)
    ++ repeated kind.LabelTwice component (is_among (inherited_labels m e)) (event_labels e)
