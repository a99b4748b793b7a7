use Rattle.std.proofs.Common.{◌≡◌, map, take}
use Rattle.formula_core.specs.Formulas.{joined}
use Rattle.model_core.specs.Faults.{first_by_place}
use Rattle.model_core.specs.Borrowed.{has}
use Rattle.machine_check.specs.PrivateNames.{clash_of}
use Rattle.machine_check.proofs.event_names.first_clash_of.Given as goal

abbrev pub invariant-loop-param : goal.invariant-loop-param
invariant-loop-param l = l.first ≡ first_by_place (joined (map (clash_of l.component (has l.known) l.place) (map (λ p. p) (take l.param-index l.params))))
