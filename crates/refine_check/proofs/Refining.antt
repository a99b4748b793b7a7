-- The faults of a machine, from what its parts give.
use Rattle.std.proofs.Common.{◌≡◌, ◌∙◌, ap, refl, sym, ℕ, List, []}
use Rattle.std.specs.Prelude.{Option, Some, None}
use Rattle.std.specs.List.{zip}
use Rattle.std.specs.Option.{option_map_or}
use Rattle.formula_core.specs.declared.raw.Ref.{Ref}
use Rattle.model_core.specs.declared.component.RawComponent.{RawComponent}
use Rattle.model_core.specs.declared.component.RawComponent.TheVariants as raw
use Rattle.model_core.specs.declared.component.RawEvent.{RawEvent}
use Rattle.model_core.specs.declared.component.RawLabelled.{RawLabelled}
use Rattle.model_core.specs.declared.component.RawVariant.{RawVariant}
use Rattle.model_core.specs.declared.checked.Checked.{Checked}
use Rattle.model_core.specs.declared.checked.CheckedEvent.{CheckedEvent}
use Rattle.model_core.specs.declared.checked.CheckedMachine.{CheckedMachine}
use Rattle.check_rules.specs.Contexts.{names_of}
use Rattle.check_rules.specs.Machines.{Written, abstract_events, own_names, lost_variables}
use Rattle.check_rules.specs.Components.{machine_at, refinements_of}
use Rattle.check_rules.specs.Refinements.{refinement_faults}
use Rattle.refine_check.specs.Private.{lost_of}

lost_is : (m : Option CheckedMachine) (w : Written) → option_map_or (λ x. lost_of x (own_names w)) m [] ≡ lost_variables m w
lost_is None w = refl
lost_is (Some m) w = refl

pub machine_is : (written : RawComponent) (checked : CheckedMachine) (abstraction : Option Checked) (m : Option CheckedMachine)
    (name : Ref) (refines : Option Ref) (sees variables : List Ref) (invariants : List RawLabelled) (variant : Option RawVariant) (events : List RawEvent)
    (abstract : List CheckedEvent) (lost : List (List ℕ)) (vars : List Ref) (own : List RawEvent) (typed : List CheckedEvent) →
    written ≡ raw.Machine name refines sees variables invariants variant events → m ≡ machine_at abstraction → abstract ≡ abstract_events m → vars ≡ variables →
    lost ≡ option_map_or (λ x. lost_of x (names_of vars)) m [] → own ≡ events → typed ≡ checked.events →
    refinement_faults name.name abstract lost variant checked.variant (zip own typed) ≡ refinements_of written checked abstraction
machine_is written checked abstraction m name refines sees variables invariants variant events abstract lost vars own typed e is a v l o t =
    let w : Written = record { name = name; sees = sees; variables = variables; invariants = invariants; variant = variant; events = events } in
    let events_are : abstract ≡ abstract_events (machine_at abstraction) = a ∙ ap abstract_events is in
    let lost_are : lost ≡ lost_variables (machine_at abstraction) w =
    l ∙ (λ i. option_map_or (λ x. lost_of x (names_of (v i))) (is i) []) ∙ lost_is (machine_at abstraction) w in
    (λ i. refinement_faults name.name (events_are i) (lost_are i) variant checked.variant (zip (o i) (t i)))
    ∙ ap (λ r. refinements_of r checked abstraction) (sym e)
