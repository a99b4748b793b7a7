use Rattle.std.proofs.Common.{not, filter, map}
use Rattle.model_core.specs.Borrowed.{has}
use Rattle.model_core.proofs.Lists.{filter_append}
use Rattle.context_check.proofs.Views.{grows, append_none}
use Rattle.context_check.proofs.visible.add_fresh_names.Goals as goal

pub loop-name-init : goal.loop-name-init
loop-name-init c = append_none (map (λ n. n.now) c.args.fresh.now.items)

pub loop-name-preserved : goal.loop-name-preserved
loop-name-preserved c =
    grows (filter (λ n. not (has c.args.known.now n))) (filter_append (λ n. not (has c.args.known.now n))) c.args.names.now c.loop-name.name-index c.name-item.result
    (map (λ n. n.now) c.args.fresh.now.items) (map (λ n. n.now) c.loop-name.fresh.items) (map (λ n. n.now) c.add_fresh_name.new.fresh.items) c.loop-name-test.true c.name-item.is c.loop-name.invariant c.in_ok-add_fresh_name.ensures
