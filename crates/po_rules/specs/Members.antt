-- An obligation of a component, by cases: which own labelled formula, or which row of which event, gives it. The order of a list plays no part.
use Rattle.std.specs.Prelude.{◌≡◌, [], take, drop, Option, Some}
use Rattle.formula_core.specs.declared.formula.Formula.{Formula}
use Rattle.model_core.specs.declared.checked.Checked.{Checked}
use Rattle.model_core.specs.declared.checked.Checked.TheVariants.{Context, Machine}
use Rattle.model_core.specs.declared.checked.CheckedMachine.{CheckedMachine}
use Rattle.model_core.specs.declared.checked.CheckedEvent.{CheckedEvent}
use Rattle.model_core.specs.Each.{IsIn, IsGivenBeside}
use Rattle.sequent_core.specs.declared.sequent.Obligation.{Obligation}
use Rattle.po_rules.specs.Parts.{formulas, parts_of}
use Rattle.model_core.specs.Refined.{refined_by}
use Rattle.po_rules.specs.Rows.{labelled_rows, variant_rows}
use Rattle.po_rules.specs.Tables.{EventRow, row_of_event}

-- What gives an obligation of a machine.
pub data IsMachineObligation (m : CheckedMachine) (abstraction : Option CheckedMachine) (o : Obligation) : Type 0 where
  -- an own invariant, from the axioms and the invariants before
  by_own_invariant :
      IsGivenBeside (labelled_rows m.name m.env (formulas m.axioms)) (take m.own_from m.invariants) (drop m.own_from m.invariants) o →
      IsMachineObligation m abstraction o
  -- the variant
  by_variant : (v : Formula) → m.variant ≡ Some v → IsIn o (variant_rows m v) → IsMachineObligation m abstraction o
  -- a row of the table, at an event
  by_event : (e : CheckedEvent) (row : EventRow) → IsIn e m.events →
      IsIn o (row_of_event m abstraction e (refined_by abstraction e) (parts_of m e (refined_by abstraction e)) row) →
      IsMachineObligation m abstraction o

-- Some own axiom of a context gives it, from the axioms before; or it is one of a machine.
abbrev pub IsObligation : Checked → Option CheckedMachine → Obligation → Type 0
IsObligation (Context c) abstraction o = IsGivenBeside (labelled_rows c.name c.env []) (take c.own_from c.axioms) (drop c.own_from c.axioms) o
IsObligation (Machine m) abstraction o = IsMachineObligation m abstraction o
