use Rattle.std.proofs.Common.{◌≡◌, not, drop}
use Rattle.std.specs.List.{filter}
use Rattle.type_action.specs.CoreActions.{with_all}
use Rattle.model_core.specs.Borrowed.{has}
use Rattle.machine_check.proofs.environment.add_lost.Given as goal

abbrev pub invariant-loop-param : goal.invariant-loop-param
invariant-loop-param l =
    with_all l.env (filter (λ p. not (has l.kept p.0)) (drop l.param-index l.params)) ≡ with_all l.initial.env (filter (λ p. not (has l.kept p.0)) l.params)
