use Rattle.std.proofs.Common.{◌∙◌, map}
use Rattle.static_check.specs.PrivateSorting.{component_of, waiting_for}
use Rattle.static_check.proofs.Turns.{begins, popped, turn_kept, turn_smaller_list, none_pending, ends}
use Rattle.static_check.proofs.sorting.order.Goals as goal

pub loop-waiting-init : goal.loop-waiting-init
loop-waiting-init c =
    begins (map (λ x. x.now) c.args.components.now) (waiting_for c.in_ok-names.names) (map component_of c.in_ok-pending.pending.items) c.new-sorted.result.items
    c.in_ok-names.ensures c.in_ok-pending.ensures c.new-sorted.ensures.items

pub loop-waiting-smaller : goal.loop-waiting-smaller
loop-waiting-smaller c =
    turn_smaller_list (map (λ x. x.now) c.args.components.now) c.loop-waiting.sorted.items c.take_turn.new.sorted.items (waiting_for c.loop-waiting.names) (waiting_for c.take_turn.new.names)
    c.loop-waiting.pending.items c.pop.new.self.items c.take_turn.new.pending c.in-Some.waiting c.in-Some.ensures.items c.loop-waiting.invariant c.in_ok-take_turn.ensures

pub loop-waiting-preserved : goal.loop-waiting-preserved
loop-waiting-preserved c =
    turn_kept (map (λ x. x.now) c.args.components.now) c.loop-waiting.sorted.items c.take_turn.new.sorted.items (waiting_for c.loop-waiting.names) (waiting_for c.take_turn.new.names)
    (map component_of c.pop.new.self.items) (map component_of c.take_turn.new.pending.items) c.in-Some.waiting.component.now
    (popped (map (λ x. x.now) c.args.components.now) c.loop-waiting.sorted.items (waiting_for c.loop-waiting.names) c.loop-waiting.pending.items c.pop.new.self.items c.in-Some.waiting c.in-Some.ensures.items c.loop-waiting.invariant)
    c.in_ok-take_turn.ensures

pub returns : goal.returns
returns c =
    ends (map (λ x. x.now) c.args.components.now) c.loop-waiting.sorted.items c.of.result c.of-2.result (waiting_for c.loop-waiting.names)
    (none_pending (map (λ x. x.now) c.args.components.now) c.loop-waiting.sorted.items (waiting_for c.loop-waiting.names) c.loop-waiting.pending c.in_default.ensures.cases.0 c.loop-waiting.invariant)
    c.of.ensures (c.of-2.ensures ∙ c.in_ok-cyclic.ensures)
