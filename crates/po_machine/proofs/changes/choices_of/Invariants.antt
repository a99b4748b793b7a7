use Rattle.std.proofs.Common.{◌≡◌, map, take}
use Rattle.model_core.specs.Each.{for_each}
use Rattle.po_rules.specs.Parts.{before_after}
use Rattle.po_machine.proofs.changes.choices_of.Given as goal

abbrev pub invariant-loop-action : goal.invariant-loop-action
invariant-loop-action l = l.out.items ≡ for_each before_after (map (λ a. a.1) (take l.action-index l.actions))
