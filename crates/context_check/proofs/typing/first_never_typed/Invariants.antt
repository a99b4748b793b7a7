use Rattle.std.proofs.Common.{◌≡◌, take}
use Rattle.model_core.specs.Faults.{first_by_place}
use Rattle.check_rules.specs.Typed.{never_typed}
use Rattle.context_check.proofs.typing.first_never_typed.Given as goal

abbrev pub invariant-loop-one : goal.invariant-loop-one
invariant-loop-one l = l.first ≡ first_by_place (never_typed l.component l.env (take l.one-index l.declared))
