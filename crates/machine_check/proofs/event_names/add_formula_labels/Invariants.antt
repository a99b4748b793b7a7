use Rattle.std.proofs.Common.{◌≡◌, ◌||◌, ℕ, List, take, bytes_eq}
use Rattle.std.specs.List.{list_any}
use Rattle.model_core.specs.Borrowed.{has}
use Rattle.machine_check.proofs.event_names.add_formula_labels.Given as goal

abbrev pub invariant-loop-one : goal.invariant-loop-one
invariant-loop-one l = (x : List ℕ) → has l.texts x ≡ (has l.initial.texts x || list_any (λ p. bytes_eq x p.label) (take l.one-index l.labelled))
