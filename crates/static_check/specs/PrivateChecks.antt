-- What private contracts cite of the check of a machine.
use Rattle.std.specs.Prelude.{List, Option}
use Rattle.model_core.specs.declared.component.RawComponent.{RawComponent}
use Rattle.model_core.specs.declared.component.RawComponent.TheVariants as raw
use Rattle.model_core.specs.declared.checked.Checked.{Checked}
use Rattle.check_rules.specs.Contexts.{Outcome}
use Rattle.check_rules.specs.Machines.{ChecksMachine}
use Rattle.check_rules.specs.Components.{contexts_in, machine_at}

-- A machine checks to this outcome beside these contexts and this abstraction.
abbrev pub ChecksWith : RawComponent → List Checked → Option Checked → Outcome → Type 0
ChecksWith (raw.Context name extends sets constants axioms) seen abstraction outcome = ⊥
ChecksWith (raw.Machine name refines sees variables invariants variant events) seen abstraction outcome =
    ChecksMachine (machine_at abstraction)
    (record { name = name; sees = sees; variables = variables; invariants = invariants; variant = variant; events = events })
    (contexts_in seen) outcome
