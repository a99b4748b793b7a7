use Rattle.std.proofs.Common.{ap, subst, Err}
use Rattle.type_action.specs.Answers.{IsActionTyping}
use Rattle.type_action.specs.CoreActions.{unknown_in_action}
use Rattle.type_action.specs.Results.{HasNone, HasTwo}
use Rattle.check_rules.specs.Typed.{first_token_of_action}
use Rattle.context_check.specs.Private.{IsToldBy}
use Rattle.context_check.proofs.Typings.{mistyped}
use Rattle.context_check.proofs.typing.type_step.Goals as goal

pub returns-in_ok-told_by-in-Err : goal.returns-in_ok-told_by-in-Err
returns-in_ok-told_by-in-Err c =
    let env = c.args.env.now in
    let a = c.args.step.now.action in
    mistyped c.args.component.now (first_token_of_action a) (unknown_in_action env a) (HasNone (IsActionTyping env a)) (HasTwo (IsActionTyping env a))
    c.in-Err.why c.in_ok-told_by-in-Err.field-0
    (λ name place e. c.in-Err.ensures.unknown name place (ap Err e)) (λ e. (c.in-Err.ensures.known_clash (ap Err e), c.in-Err.ensures.clash (ap Err e)))
    (λ e. (c.in-Err.ensures.known_untyped (ap Err e), c.in-Err.ensures.untyped (ap Err e)))
    (subst (λ first. IsToldBy c.args.component.now first c.in-Err.why c.in_ok-told_by-in-Err.field-0) c.first_token_of_action-first.ensures c.in_ok-told_by-in-Err.ensures)
