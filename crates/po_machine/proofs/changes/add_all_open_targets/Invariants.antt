use Rattle.std.proofs.Common.{◌≡◌, ◌++◌, map, take}
use Rattle.model_core.specs.Each.{for_each}
use Rattle.po_rules.specs.Parts.{open_targets}
use Rattle.po_machine.specs.Private.{wanted_of}
use Rattle.po_machine.proofs.changes.add_all_open_targets.Given as goal

abbrev pub invariant-loop-action : goal.invariant-loop-action
invariant-loop-action l = l.out.items ≡ l.initial.out.items ++ wanted_of l.wanted (for_each open_targets (map (λ a. a.1) (take l.action-index l.actions)))
