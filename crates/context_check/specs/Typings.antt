-- What typing gives, one formula or action at a time.
use Rattle.std.specs.Prelude.{◌≡◌, ℕ, List, Option}
use Rattle.model_core.specs.declared.fault.Fault.{Fault}
use Rattle.model_core.specs.declared.component.RawLabelled.{RawLabelled}
use Rattle.model_core.specs.declared.component.RawStep.{RawStep}
use Rattle.model_core.specs.declared.checked.Labelled.{Labelled}
use Rattle.model_core.specs.Faults.{first_by_place}
use Rattle.check_rules.specs.Typed.{Entries, LabelledAction, AreTyped, AreTypedActions}

abbrev pub AreTypedSoFar : List ℕ → Entries → List (List ℕ) → List RawLabelled →
    List Labelled → Option Fault → Entries → Type 0
AreTypedSoFar component env wanted labelled typed first last =
    (faults : List Fault) × AreTyped component env wanted labelled typed faults last × (first ≡ first_by_place faults)

abbrev pub AreTypedStepsSoFar : List ℕ → Entries → List RawStep → List LabelledAction → Option Fault → Type 0
AreTypedStepsSoFar component env steps typed first =
    (faults : List Fault) × AreTypedActions component env steps typed faults × (first ≡ first_by_place faults)
