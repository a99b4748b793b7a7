-- Obligations of the table are sequents.
use Rattle.std.specs.Prelude.{List, Option}
use Rattle.model_core.specs.declared.checked.Checked.{Checked}
use Rattle.model_core.specs.declared.checked.CheckedEvent.{CheckedEvent}
use Rattle.model_core.specs.declared.checked.CheckedMachine.{CheckedMachine}
use Rattle.po_rules.specs.Parts.{EventParts}
use Rattle.po_rules.specs.Sequents.{AreGoodParts, AreSequents}
use Rattle.po_rules.specs.Tables.{EventRow, row_of_event, obligations_of}
use Rattle.sequent_laws.specs.Sound.{IsReadIn, IsWellTypedComponent, IsGoodComponent, IsGoodMachine, IsWellTypedMachine}

-- each row of an event with good parts
abbrev pub EventRowsAreSequents : Type 0
EventRowsAreSequents =
    (m : CheckedMachine) (abstraction : Option CheckedMachine) (e : CheckedEvent) (refined : List CheckedEvent)
    (p : EventParts) (row : EventRow) →
    AreGoodParts p → IsReadIn p.env m e refined → AreSequents (row_of_event m abstraction e refined p row)

-- the table of a component, where the parts of its events are good
abbrev pub GoodTablesAreSequents : Type 0
GoodTablesAreSequents =
    (checked : Checked) (abstraction : Option CheckedMachine) →
    IsGoodComponent checked abstraction → AreSequents (obligations_of checked abstraction)

-- the parts of events are good, and what their rows read is typed, where formulas are typed in the environments of
-- their places
abbrev pub TypedMachinesAreGood : Type 0
TypedMachinesAreGood =
    (m : CheckedMachine) (abstraction : Option CheckedMachine) → IsWellTypedMachine m abstraction → IsGoodMachine m abstraction

-- the table of a component, where its formulas are typed in the environments of their places
abbrev pub TablesAreSequents : Type 0
TablesAreSequents =
    (checked : Checked) (abstraction : Option CheckedMachine) →
    IsWellTypedComponent checked abstraction → AreSequents (obligations_of checked abstraction)
