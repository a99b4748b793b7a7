use Rattle.std.proofs.Common.{◌≡◌, length, map}
use Rattle.type_formula.specs.Views.{bare_of, bares_of}
use Rattle.type_formula.specs.PrivateViews.{in_a_row}
use Rattle.type_formula.proofs.InARow.{row_before}
use Rattle.type_formula.proofs.rows.trees_in_a_row.Given as goal

abbrev pub invariant-loop-tree : goal.invariant-loop-tree
invariant-loop-tree l = row_before l.trees.items (bares_of l.row) ≡ in_a_row (map bare_of l.initial.trees.items)

abbrev pub decreases-loop-tree : goal.decreases-loop-tree
decreases-loop-tree l = length l.trees.items
