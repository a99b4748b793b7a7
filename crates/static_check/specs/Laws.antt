-- Laws on the definitions: a component has one outcome.
use Rattle.std.specs.Prelude.{◌≡◌, List}
use Rattle.model_core.specs.declared.component.RawComponent.{RawComponent}
use Rattle.model_core.specs.declared.checked.Checked.{Checked}
use Rattle.check_rules.specs.Contexts.{Outcome}
use Rattle.check_rules.specs.Components.{ChecksBeside}

abbrev pub HasOneOutcome : Type 0
HasOneOutcome = (raw : RawComponent) (parts : List Checked) (one two : Outcome) → ChecksBeside raw parts one → ChecksBeside raw parts two → one ≡ two
