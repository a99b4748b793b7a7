use Rattle.std.proofs.Common.{◌≡◌, map, take}
use Rattle.formula_core.specs.Formulas.{joined}
use Rattle.model_core.specs.Faults.{first_by_place}
use Rattle.model_core.specs.Borrowed.{has}
use Rattle.machine_check.specs.PrivateNames.{clash_at}
use Rattle.machine_check.proofs.event_names.first_clash.Given as goal

abbrev pub invariant-loop-reference : goal.invariant-loop-reference
invariant-loop-reference l = l.first ≡ first_by_place (joined (map (clash_at l.component l.events (has l.known)) (map (λ r. r) (take l.reference-index l.references))))
