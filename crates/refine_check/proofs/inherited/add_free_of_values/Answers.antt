use Rattle.check_rules.specs.Assignments.{free_names_of}
use Rattle.refine_check.proofs.Inheriting.{joined_on}
use Rattle.refine_check.proofs.inherited.add_free_of_values.Goals as goal

pub loop-value-preserved : goal.loop-value-preserved
loop-value-preserved c =
    joined_on (λ p. free_names_of p.1) c.args.found.now.items c.add_free.new.found.items c.loop-value.found.items c.args.values.now c.loop-value.value-index c.value-item.result
    c.loop-value-test.true c.value-item.is c.loop-value.invariant c.in_ok-add_free.ensures
