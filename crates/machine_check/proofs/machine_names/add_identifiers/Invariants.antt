use Rattle.std.proofs.Common.{◌≡◌, ◌||◌, ℕ, List, map, not, take}
use Rattle.std.specs.List.{filter}
use Rattle.model_core.specs.Each.{is_among}
use Rattle.check_rules.specs.Visible.{entries, names}
use Rattle.model_core.specs.Borrowed.{has}
use Rattle.context_check.specs.Views.{placed}
use Rattle.machine_check.proofs.machine_names.add_identifiers.Given as goal

abbrev pub invariant-loop-part : goal.invariant-loop-part
invariant-loop-part l =
    (x : List ℕ) → has l.texts x ≡ (has l.initial.texts x || is_among (filter (λ n. not (has l.except n)) (names (entries (map placed (take l.part-index l.parts))))) x)
