use Rattle.std.proofs.Common.{◌∙◌, ◌++◌, ap, bytes_eq, map}
use Rattle.std.specs.List.{find}
use Rattle.std.specs.Option.{option_to_list}
use Rattle.po_machine.proofs.Lists.{found_next}
use Rattle.po_machine.proofs.parts.add_named.Goals as goal

pub loop-name-preserved : goal.loop-name-preserved
loop-name-preserved c =
    found_next (λ name. find (λ x. bytes_eq name x.name) c.args.events.now) c.args.names.now c.loop-name.name-index c.name-item.result
    (map (λ x. x.now) c.loop-name.found.items) (map (λ x. x.now) c.add_found.new.found.items) _ c.loop-name-test.true c.name-item.is c.loop-name.invariant
    (c.in_ok-add_found.ensures ∙ ap (λ o. map (λ x. x.now) c.loop-name.found.items ++ option_to_list o) c.event_named.ensures)
