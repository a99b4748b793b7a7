use Rattle.std.proofs.Common.{◌≡◌, ◌||◌, ℕ, List, take}
use Rattle.model_core.specs.Each.{is_among}
use Rattle.check_rules.specs.Contexts.{names_of}
use Rattle.model_core.specs.Borrowed.{has}
use Rattle.machine_check.proofs.machine_names.add_ref_names.Given as goal

abbrev pub invariant-loop-r : goal.invariant-loop-r
invariant-loop-r l = (x : List ℕ) → has l.texts x ≡ (has l.initial.texts x || is_among (names_of (take l.r-index l.refs)) x)
