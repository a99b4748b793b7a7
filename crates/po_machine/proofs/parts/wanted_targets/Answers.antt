use Rattle.po_rules.specs.Parts.{open_targets}
use Rattle.po_machine.proofs.Wanting.{both_wanted}
use Rattle.po_machine.proofs.parts.wanted_targets.Goals as goal

pub returns : goal.returns
returns c =
    both_wanted open_targets c.args.event.now.actions c.items.result.now c.args.machine.now.lost c.in_ok-lost.lost c.new-targets.result.items c.add_all_open_targets.new.out.items c.add_all_open_targets-2.new.out.items
    c.actions_of_first.result.now _ c.new-targets.ensures.items c.items.ensures c.in_ok-add_all_open_targets.ensures c.in_ok-lost.ensures c.actions_of_first.ensures c.in_ok-add_all_open_targets-2.ensures
