use Rattle.std.proofs.Common.{◌≡◌, ◌||◌, ℕ, List, take}
use Rattle.std.specs.List.{list_any}
use Rattle.model_core.specs.Each.{is_among}
use Rattle.check_rules.specs.Assignments.{assigned}
use Rattle.model_core.specs.Borrowed.{has}
use Rattle.machine_check.proofs.assignments.add_all_assigned.Given as goal

abbrev pub invariant-loop-action : goal.invariant-loop-action
invariant-loop-action l = (x : List ℕ) → has l.texts x ≡ (has l.initial.texts x || list_any (λ a. is_among (assigned a.1) x) (take l.action-index l.actions))
