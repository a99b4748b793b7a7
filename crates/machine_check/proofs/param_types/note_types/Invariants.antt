use Rattle.std.proofs.Common.{◌≡◌, ℕ, List, take}
use Rattle.std.specs.Option.{option_or}
use Rattle.formula_core.specs.Env.{type_in}
use Rattle.machine_check.specs.PrivateTyped.{type_of_text}
use Rattle.machine_check.proofs.param_types.note_types.Given as goal

abbrev pub invariant-loop-param : goal.invariant-loop-param
invariant-loop-param l = (x : List ℕ) → type_of_text l.types x ≡ option_or (type_of_text l.initial.types x) (type_in (take l.param-index l.params) x)
