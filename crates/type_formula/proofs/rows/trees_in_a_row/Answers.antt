use Rattle.type_formula.proofs.InARow.{row_before-nothing, row_step}
use Rattle.type_formula.proofs.rows.trees_in_a_row.Goals as goal

pub loop-tree-init : goal.loop-tree-init
loop-tree-init c = row_before-nothing _

pub loop-tree-preserved : goal.loop-tree-preserved
loop-tree-preserved c = row_step _ _ _ _ _ _ c.in-Some.ensures.items c.in_ok-row.ensures c.loop-tree.invariant
