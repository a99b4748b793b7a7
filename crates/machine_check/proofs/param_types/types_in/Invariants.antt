use Rattle.std.proofs.Common.{◌≡◌, ℕ, List, map, take}
use Rattle.formula_core.specs.Env.{type_in}
use Rattle.formula_core.specs.Formulas.{joined}
use Rattle.machine_check.specs.PrivateTyped.{type_of_text}
use Rattle.machine_check.proofs.param_types.types_in.Given as goal

abbrev pub invariant-loop-event : goal.invariant-loop-event
invariant-loop-event l = (x : List ℕ) → type_of_text l.types x ≡ type_in (joined (map (λ a. a.now.params) (take l.event-index l.events))) x
