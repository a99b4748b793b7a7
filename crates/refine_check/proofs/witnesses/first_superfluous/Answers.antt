use Rattle.std.proofs.Common.{◌∙◌, []}
use Rattle.check_rules.specs.Refinements.{superfluous_witness_row}
use Rattle.refine_check.proofs.Faults.{joined_next}
use Rattle.refine_check.proofs.witnesses.first_superfluous.Goals as goal

pub loop-witness-preserved : goal.loop-witness-preserved
loop-witness-preserved c =
    c.earlier-first.ensures
    ∙ joined_next (superfluous_witness_row c.args.component.now c.args.needed.now []) c.args.witnesses.now c.loop-witness.witness-index c.witness-item.result c.loop-witness.first c.in_ok-here.here
    c.loop-witness-test.true c.witness-item.is c.loop-witness.invariant c.in_ok-here.ensures
