use Rattle.std.proofs.Common.{◌≡◌, drop}
use Rattle.type_action.specs.CoreActions.{with_all}
use Rattle.check_rules.specs.Contexts.{names_of}
use Rattle.machine_check.specs.PrivateTyped.{type_of_text, typed_there}
use Rattle.machine_check.proofs.environment.add_typed_there.Given as goal

abbrev pub invariant-loop-param : goal.invariant-loop-param
invariant-loop-param l =
    with_all l.env (typed_there (type_of_text l.types) (names_of (drop l.param-index l.params))) ≡ with_all l.initial.env (typed_there (type_of_text l.types) (names_of l.params))
