use Rattle.std.proofs.Common.{ap, Err}
use Rattle.type_formula.specs.Answers.{HasNoTyping, HasTwoTypings}
use Rattle.type_formula.specs.Unknowns.{unknown_in}
use Rattle.context_check.proofs.Typings.{mistyped}
use Rattle.context_check.proofs.typing.type_one.Goals as goal

pub returns-in_ok-told_by-in-Err : goal.returns-in_ok-told_by-in-Err
returns-in_ok-told_by-in-Err c =
    let env = c.args.env.now in
    let wanted = c.args.wanted.now in
    let raw = c.args.written.now.formula in (
      mistyped c.args.component.now c.args.written.now.first (unknown_in env wanted raw) (HasNoTyping env wanted raw) (HasTwoTypings env wanted raw) c.in-Err.why c.in_ok-told_by-in-Err.field-0
          (λ name place e. c.in-Err.ensures.unknown name place (ap Err e)) (λ e. (c.in-Err.ensures.known_clash (ap Err e), c.in-Err.ensures.clash (ap Err e)))
          (λ e. (c.in-Err.ensures.known_untyped (ap Err e), c.in-Err.ensures.untyped (ap Err e))) c.in_ok-told_by-in-Err.ensures,
      c.in-Err.ensures.unchanged,
    )
