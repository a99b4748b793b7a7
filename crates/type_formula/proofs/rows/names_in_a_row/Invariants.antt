use Rattle.std.proofs.Common.{◌≡◌, length, map}
use Rattle.type_formula.specs.CoreForms.{bounds}
use Rattle.type_formula.specs.Views.{bounds_of}
use Rattle.type_formula.specs.PrivateViews.{bound_of}
use Rattle.type_formula.proofs.InARow.{names_before}
use Rattle.type_formula.proofs.rows.names_in_a_row.Given as goal

abbrev pub invariant-loop-name : goal.invariant-loop-name
invariant-loop-name l = names_before l.names.items (bounds_of l.row) ≡ bounds (map bound_of l.initial.names.items)

abbrev pub decreases-loop-name : goal.decreases-loop-name
decreases-loop-name l = length l.names.items
