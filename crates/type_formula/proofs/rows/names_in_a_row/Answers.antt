use Rattle.type_formula.proofs.InARow.{names_before-nothing, names_step}
use Rattle.type_formula.proofs.rows.names_in_a_row.Goals as goal

pub loop-name-init : goal.loop-name-init
loop-name-init c = names_before-nothing _

pub loop-name-preserved : goal.loop-name-preserved
loop-name-preserved c = names_step _ _ _ _ _ _ c.in-Some.ensures.items c.in_ok-row.ensures c.loop-name.invariant
