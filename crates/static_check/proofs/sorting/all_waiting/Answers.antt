use Rattle.std.proofs.Common.{◌∙◌, ap, map, arith}
use Rattle.std.proofs.lemmas.List.{take_all}
use Rattle.static_check.proofs.Turns.{turned}
use Rattle.static_check.proofs.sorting.all_waiting.Goals as goal

pub returns : goal.returns
returns c =
    turned c.loop-component.all.items c.reverse.new.self.items (map (λ x. x.now) c.args.components.now)
    (c.loop-component.invariant ∙ ap (map (λ x. x.now)) (take_all c.loop-component.component-index c.args.components.now (omega (arith, c.loop-component-test.false)))) c.reverse.ensures.items
