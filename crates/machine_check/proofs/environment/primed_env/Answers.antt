use Rattle.std.proofs.Common.{◌∙◌, ap}
use Rattle.type_action.specs.CoreActions.{with_all}
use Rattle.model_core.specs.Borrowed.{has}
use Rattle.machine_check.specs.PrivateTyped.{primed_known}
use Rattle.machine_check.proofs.environment.primed_env.Goals as goal

pub returns : goal.returns
returns c =
    let primed = c.deref.ensures.value ∙ c.in_ok-primed.ensures ∙ (λ i. primed_known (λ x. c.in_ok-variables.ensures x i) (c.entries.ensures.entries i)) in
    c.in_ok-add_all.ensures ∙ (λ i. with_all (c.in_ok-all.ensures i) (primed i))
