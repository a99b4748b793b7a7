use Rattle.std.proofs.Common.{◌∙◌, ap}
use Rattle.static_check.specs.PrivateSorting.{waiting_for}
use Rattle.static_check.proofs.Maps.{one_more_open, with_no_items}
use Rattle.static_check.proofs.sorting.all_open.Goals as goal

pub loop-component-preserved : goal.loop-component-preserved
loop-component-preserved c =
    one_more_open c.args.components.now c.loop-component.component-index c.component-item.result (waiting_for c.loop-component.names) (waiting_for c.insert.new.self) c.as_text.result.now
    c.loop-component-test.true c.component-item.is (c.as_text.ensures.text ∙ ap (λ r. r.name) c.heading.ensures) c.loop-component.invariant
    (with_no_items c.as_text.result.now c.loop-component.names c.insert.new.self c.new.result c.new.ensures.items c.in_ok-insert.ensures.updates)
