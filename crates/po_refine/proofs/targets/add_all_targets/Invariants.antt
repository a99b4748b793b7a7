use Rattle.std.proofs.Common.{◌≡◌, ◌++◌, drop, map}
use Rattle.std.specs.Map.{keys_of}
use Rattle.model_core.specs.Each.{for_each}
use Rattle.po_rules.specs.Parts.{new_values}
use Rattle.model_core.specs.Borrowed.{texts}
use Rattle.po_refine.proofs.targets.add_all_targets.Given as goal

abbrev pub invariant-loop-action : goal.invariant-loop-action
invariant-loop-action l =
    texts l.found.items ++ keys_of (for_each new_values (map (λ a. a.1) (drop l.action-index l.actions)))
    ≡ texts l.initial.found.items ++ keys_of (for_each new_values (map (λ a. a.1) l.actions))
