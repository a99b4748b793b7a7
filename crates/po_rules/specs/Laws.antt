-- The law of the table.
use Rattle.std.specs.Prelude.{◌↔◌, Option}
use Rattle.model_core.specs.declared.checked.Checked.{Checked}
use Rattle.model_core.specs.declared.checked.CheckedMachine.{CheckedMachine}
use Rattle.model_core.specs.Each.{IsIn}
use Rattle.sequent_core.specs.declared.sequent.Obligation.{Obligation}
use Rattle.po_rules.specs.Tables.{obligations_of}
use Rattle.po_rules.specs.Members.{IsObligation}

-- the list of a component has an obligation exactly where some row of the table gives it
abbrev pub RowsGiveObligations : Type 0
RowsGiveObligations = (checked : Checked) (abstraction : Option CheckedMachine) (o : Obligation) → IsIn o (obligations_of checked abstraction) ↔ IsObligation checked abstraction o
