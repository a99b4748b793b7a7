use Rattle.po_rules.specs.Parts.{new_values}
use Rattle.po_machine.proofs.Wanting.{both_wanted}
use Rattle.po_machine.proofs.parts.after_pairs.Goals as goal

pub returns : goal.returns
returns c =
    both_wanted new_values c.args.event.now.actions c.items.result.now c.args.machine.now.lost c.in_ok-lost.lost c.new-after.result.items c.add_all_new_values.new.out.items c.add_all_new_values-2.new.out.items
    c.actions_of_first.result.now _ c.new-after.ensures.items c.items.ensures c.in_ok-add_all_new_values.ensures c.in_ok-lost.ensures c.actions_of_first.ensures c.in_ok-add_all_new_values-2.ensures
