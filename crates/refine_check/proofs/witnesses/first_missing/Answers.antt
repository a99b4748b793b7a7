use Rattle.std.proofs.Common.{◌∙◌, []}
use Rattle.check_rules.specs.Refinements.{missing_witness_row}
use Rattle.refine_check.proofs.Faults.{joined_next}
use Rattle.refine_check.proofs.witnesses.first_missing.Goals as goal

pub loop-name-preserved : goal.loop-name-preserved
loop-name-preserved c =
    c.earlier-first.ensures
    ∙ joined_next (missing_witness_row c.args.component.now c.args.place c.args.labels.now []) c.args.needed.now c.loop-name.name-index c.name-item.result c.loop-name.first c.in_ok-here.here
    c.loop-name-test.true c.name-item.is c.loop-name.invariant c.in_ok-here.ensures
