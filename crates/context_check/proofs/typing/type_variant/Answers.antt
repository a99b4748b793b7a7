use Rattle.std.proofs.Common.{[], ap, Err, None}
use Rattle.type_formula.specs.Answers.{HasNoFormula, HasTwoFormulas}
use Rattle.type_formula.specs.CoreForms.{core_form}
use Rattle.type_formula.specs.Unknowns.{unknown_in}
use Rattle.context_check.proofs.Typings.{mistyped, variant_told}
use Rattle.context_check.proofs.typing.type_variant.Goals as goal

pub returns-in_ok-told_by-in-Err : goal.returns-in_ok-told_by-in-Err
returns-in_ok-told_by-in-Err c =
    let env = c.args.env.now in
    let raw = c.in-Some.written.now.formula in
    variant_told c.args.component.now env c.args.variant c.in-Some.written c.in_ok-told_by-in-Err.field-0 c.in-Some.is
    (mistyped c.args.component.now c.in-Some.written.now.first (unknown_in env [] raw) (HasNoFormula env [] (core_form raw) None) (HasTwoFormulas env [] (core_form raw) None)
    c.in-Err.why c.in_ok-told_by-in-Err.field-0
    (λ name place e. c.in-Err.ensures.unknown name place (ap Err e)) (λ e. (c.in-Err.ensures.known_clash (ap Err e), c.in-Err.ensures.clash (ap Err e)))
    (λ e. (c.in-Err.ensures.known_untyped (ap Err e), c.in-Err.ensures.untyped (ap Err e))) c.in_ok-told_by-in-Err.ensures)
