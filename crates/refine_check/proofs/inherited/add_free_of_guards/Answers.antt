use Rattle.std.proofs.Common.{◌∙◌, ◌++◌, ap}
use Rattle.check_rules.specs.Assignments.{free_names_of}
use Rattle.refine_check.proofs.Inheriting.{joined_on}
use Rattle.refine_check.proofs.inherited.add_free_of_guards.Goals as goal

pub loop-guard-preserved : goal.loop-guard-preserved
loop-guard-preserved c =
    joined_on (λ g. free_names_of g.formula) c.args.found.now.items c.add_free.new.found.items c.loop-guard.found.items c.args.guards.now c.loop-guard.guard-index c.guard-item.result
    c.loop-guard-test.true c.guard-item.is c.loop-guard.invariant
    (c.in_ok-add_free.ensures ∙ ap (λ f. c.loop-guard.found.items ++ free_names_of f) c.get.ensures)
