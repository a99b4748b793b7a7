use Rattle.std.proofs.Common.{◌∙◌}
use Rattle.check_rules.specs.Refinements.{no_abstract_event_row}
use Rattle.refine_check.proofs.Faults.{joined_next}
use Rattle.refine_check.proofs.paired.first_no_abstract_event.Goals as goal

pub loop-reference-preserved : goal.loop-reference-preserved
loop-reference-preserved c =
    c.earlier-first.ensures
    ∙ joined_next (no_abstract_event_row c.args.component.now c.args.events.now c.args.event.now) c.items-reference-items.result.now c.loop-reference.reference-index c.reference-item.result c.loop-reference.first
    c.in_ok-here.here c.loop-reference-test.true c.reference-item.is c.loop-reference.invariant c.in_ok-here.ensures
