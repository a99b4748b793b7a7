-- What only private contracts cite.
use Rattle.std.specs.Prelude.{List, [], ◌∷◌, Option}
use Rattle.model_core.specs.declared.checked.CheckedMachine.{CheckedMachine}
use Rattle.model_core.specs.declared.checked.CheckedEvent.{CheckedEvent}
use Rattle.sequent_core.specs.declared.sequent.Obligation.{Obligation}
use Rattle.po_rules.specs.Parts.{EventParts}
use Rattle.model_core.specs.Refined.{refined_by}
use Rattle.po_rules.specs.Rows.{invariant_rows}
use Rattle.po_rules.specs.Tables.{EventRow, all_rows, event_rows}
use Rattle.po_generate.specs.declared.table.Part.{Part}
use Rattle.po_generate.specs.declared.table.Part.TheVariants.{Whole, Alone, Beside}
use Rattle.po_generate.specs.Lists.{rows_alone, rows_beside}

-- the rows that are wanted of an event that refines these
abbrev pub rows_in : Part → List CheckedEvent → List EventRow
rows_in Whole refined = all_rows
rows_in Alone refined = rows_alone refined
rows_in Beside refined = rows_beside refined

abbrev pub event_rows_in : Part → CheckedMachine → Option CheckedMachine → CheckedEvent → List Obligation
event_rows_in part m abstraction e = event_rows (rows_in part (refined_by abstraction e)) m abstraction e

-- the invariants of an event that refines others
abbrev pub invariants_beside : CheckedMachine → CheckedEvent → List CheckedEvent → EventParts → List Obligation
invariants_beside m e [] p = []
invariants_beside m e (r ∷ refined) p = invariant_rows m e p
