use Rattle.std.proofs.Common.{◌+◌, refl, take}
use Rattle.build_core.specs.Private.{ConcludesIn}
use Rattle.build_core.proofs.Setting.{has_at, set_taken}
use Rattle.build_core.proofs.Moving.{few_at_first, few_more, few_steps}
use Rattle.build_core.proofs.checking.conclude_sorted.Goals as goal

pub loop-name-preserved : goal.loop-name-preserved
loop-name-preserved g c = record {
  set = set_taken ConcludesIn c.args.sources.now.components.now c.args.sorted.now c.loop-name.name-index c.name-item.result c.args.progress.now.outcomes c.loop-name.progress.outcomes
      c.add_concluded.new.progress.outcomes c.component_of-raw.result.now c.loop-name-test.true c.name-item.is c.loop-name.invariant.set
      c.component_of-raw.ensures.there c.component_of-raw.ensures.named c.in_ok-add_concluded.ensures.outcomes;
  steady = c.in_ok-add_concluded.ensures.steady;
  few = few_more c.args.before.now.texts.now.entries c.args.before.now.outcomes.now c.requires.before c.args.sources.now.texts.now.entries c.args.sources.now.components.now c.args.progress.now.outcomes c.requires.begun
      c.args.sorted.now c.requires.order c.requires.once c.loop-name.name-index c.name-item.result c.component_of-raw.result.now c.loop-name.progress.outcomes c.loop-name.progress.kept.entries
      c.args.steps.now c.loop-name.steps c.add_concluded.new.steps c.loop-name-test.true c.name-item.is c.loop-name.invariant.set c.loop-name.invariant.steady
      c.component_of-raw.ensures.there c.component_of-raw.ensures.named c.loop-name.invariant.few c.in_ok-add_concluded.ensures.steps;
}

pub component_of-raw-requires-clause-there : goal.component_of-raw-requires-clause-there
component_of-raw-requires-clause-there g c =
    has_at c.args.sources.now.components.now c.args.sorted.now c.loop-name.name-index c.name-item.result c.requires.names c.loop-name-test.true c.name-item.is

pub loop-name-init : goal.loop-name-init
loop-name-init g c = record {
  set = refl;
  steady = c.requires.steady;
  few = few_at_first c.args.before.now.texts.now.entries c.args.sources.now.texts.now.entries c.args.steps.now;
}

pub returns-in_err-add_concluded-clause-steps : goal.returns-in_err-add_concluded-clause-steps
returns-in_err-add_concluded-clause-steps g c =
    few_steps c.args.before.now.texts.now.entries c.args.sources.now.texts.now.entries (take (c.loop-name.name-index + 1) c.args.sorted.now) c.args.steps.now c.add_concluded.new.steps
    (few_more c.args.before.now.texts.now.entries c.args.before.now.outcomes.now c.requires.before c.args.sources.now.texts.now.entries c.args.sources.now.components.now c.args.progress.now.outcomes c.requires.begun
    c.args.sorted.now c.requires.order c.requires.once c.loop-name.name-index c.name-item.result c.component_of-raw.result.now c.loop-name.progress.outcomes c.loop-name.progress.kept.entries
    c.args.steps.now c.loop-name.steps c.add_concluded.new.steps c.loop-name-test.true c.name-item.is c.loop-name.invariant.set c.loop-name.invariant.steady
    c.component_of-raw.ensures.there c.component_of-raw.ensures.named c.loop-name.invariant.few c.in_err-add_concluded.ensures.steps)
