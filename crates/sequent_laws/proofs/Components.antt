-- The table of a component whose formulas are typed.
use Rattle.std.specs.Prelude.{Option}
use Rattle.model_core.specs.declared.checked.Checked.{Checked}
use Rattle.model_core.specs.declared.checked.Checked.TheVariants.{Context, Machine}
use Rattle.model_core.specs.declared.checked.CheckedMachine.{CheckedMachine}
use Rattle.po_rules.specs.Sequents.{AreSequents}
use Rattle.po_rules.specs.Tables.{obligations_of}
use Rattle.sequent_laws.specs.Sound.{IsWellTypedComponent}
use Rattle.sequent_laws.proofs.GoodParts.{machine_has_good_parts}
use Rattle.sequent_laws.proofs.Tables.{table_is}

pub typed_table_is : (checked : Checked) (abstraction : Option CheckedMachine) → IsWellTypedComponent checked abstraction → AreSequents (obligations_of checked abstraction)
typed_table_is (Context c) abstraction h = table_is (Context c) abstraction h
typed_table_is (Machine m) abstraction h = table_is (Machine m) abstraction (machine_has_good_parts m abstraction h)
