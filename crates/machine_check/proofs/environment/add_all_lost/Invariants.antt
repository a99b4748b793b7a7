use Rattle.std.proofs.Common.{◌≡◌, not, map, drop}
use Rattle.std.specs.List.{filter}
use Rattle.formula_core.specs.Formulas.{joined}
use Rattle.type_action.specs.CoreActions.{with_all}
use Rattle.model_core.specs.Borrowed.{has}
use Rattle.machine_check.proofs.environment.add_all_lost.Given as goal

abbrev pub invariant-loop-event : goal.invariant-loop-event
invariant-loop-event l =
    with_all l.env (filter (λ p. not (has l.kept p.0)) (joined (map (λ a. a.now.params) (drop l.event-index l.events))))
    ≡ with_all l.initial.env (filter (λ p. not (has l.kept p.0)) (joined (map (λ a. a.now.params) l.events)))
