use Rattle.std.proofs.Common.{[], not, filter, map}
use Rattle.model_core.specs.Borrowed.{has}
use Rattle.context_check.specs.Views.{placed}
use Rattle.context_check.proofs.Views.{grows, filter_mapped}
use Rattle.context_check.proofs.visible.fresh_of.Goals as goal

pub loop-pair-preserved : goal.loop-pair-preserved
loop-pair-preserved g c =
    grows (λ ps. filter (λ x. not (has c.args.known.now x.1)) (map placed ps)) (filter_mapped (λ x. not (has c.args.known.now x.1)) placed) c.args.pairs.now c.loop-pair.pair-index c.pair-item.result
    [] (map placed c.loop-pair.fresh.items) (map placed c.add_fresh.new.fresh.items) c.loop-pair-test.true c.pair-item.is c.loop-pair.invariant c.in_ok-add_fresh.ensures
