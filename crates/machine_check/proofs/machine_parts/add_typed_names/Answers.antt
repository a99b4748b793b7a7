use Rattle.std.proofs.lemmas.List.Elements.{filter_map-append}
use Rattle.check_rules.specs.Typed.{in_order}
use Rattle.context_check.proofs.Views.{append_none, grows}
use Rattle.machine_check.proofs.machine_parts.add_typed_names.Goals as goal

pub loop-name-init : goal.loop-name-init
loop-name-init c = append_none c.args.all.now.items

pub loop-name-preserved : goal.loop-name-preserved
loop-name-preserved c =
    grows (in_order c.args.env.now) (λ xs ys. filter_map-append _ xs ys) c.args.names.now c.loop-name.name-index c.name-item.result
    c.args.all.now.items c.loop-name.all.items c.add_typed.new.entries.items c.loop-name-test.true c.name-item.is c.loop-name.invariant c.in_ok-add_typed.ensures
