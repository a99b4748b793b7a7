use Rattle.build_core.specs.Private.{IsToldCyclic}
use Rattle.build_core.proofs.Setting.{has_at, set_taken}
use Rattle.build_core.proofs.checking.tell_cyclic.Goals as goal

pub loop-name-preserved : goal.loop-name-preserved
loop-name-preserved c = record {
  set = set_taken IsToldCyclic c.args.sources.now.components.now c.args.cyclic.now c.loop-name.name-index c.name-item.result c.args.progress.now.outcomes c.loop-name.progress.outcomes
      c.add_cyclic.new.progress.outcomes c.component_of-raw.result.now c.loop-name-test.true c.name-item.is c.loop-name.invariant.set
      c.component_of-raw.ensures.there c.component_of-raw.ensures.named c.in_ok-add_cyclic.ensures.outcomes;
  steady = c.in_ok-add_cyclic.ensures.steady;
}

pub component_of-raw-requires-clause-there : goal.component_of-raw-requires-clause-there
component_of-raw-requires-clause-there c =
    has_at c.args.sources.now.components.now c.args.cyclic.now c.loop-name.name-index c.name-item.result c.requires.names c.loop-name-test.true c.name-item.is
