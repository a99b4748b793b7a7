use Rattle.std.proofs.Common.{◌∙◌, sym, subst}
use Rattle.std.proofs.lemmas.Result.{err_from_is_err_and}
use Rattle.proof_codec.specs.Private.{IsReadAs}
use Rattle.proof_codec.specs.Numbers.{IsByte, byte}
use Rattle.proof_codec.proofs.KindForms.{goal_read, no_goal, hyp_read, no_hyp, plain_read}
use Rattle.proof_codec.proofs.rule.RuleKindCoded.read.Goals as goal

pub returns-in_err-law-in-29 : goal.returns-in_err-law-in-29
returns-in_err-law-in-29 c =
    let first = subst (λ n. IsReadAs IsByte byte c.args.from.now n c.byte.new.self) c.in-29.is c.in_ok-number.ensures in
    let p = err_from_is_err_and c.from_residual-in_err-law-in-29.result c.from_residual-in_err-law-in-29.ensures.1 in
    rw (p.1, p.2) (no_goal _ _ c.args.from.now c.in_err-law-in-29.field-0.0 first c.in_err-law-in-29.ensures)

pub returns-in_err-law-in-30 : goal.returns-in_err-law-in-30
returns-in_err-law-in-30 c =
    let first = subst (λ n. IsReadAs IsByte byte c.args.from.now n c.byte.new.self) c.in-30.is c.in_ok-number.ensures in
    let p = err_from_is_err_and c.from_residual-in_err-law-in-30.result c.from_residual-in_err-law-in-30.ensures.1 in
    rw (p.1, p.2) (no_hyp _ _ c.args.from.now c.in_err-law-in-30.field-0.0 first c.in_err-law-in-30.ensures)

pub returns-in_ok-law-in-29 : goal.returns-in_ok-law-in-29
returns-in_ok-law-in-29 c =
    let first = subst (λ n. IsReadAs IsByte byte c.args.from.now n c.byte.new.self) c.in-29.is c.in_ok-number.ensures in
    goal_read _ _ _ _ _ first c.in_ok-law-in-29.ensures

pub returns-in_ok-law-in-30 : goal.returns-in_ok-law-in-30
returns-in_ok-law-in-30 c =
    let first = subst (λ n. IsReadAs IsByte byte c.args.from.now n c.byte.new.self) c.in-30.is c.in_ok-number.ensures in
    hyp_read _ _ _ _ _ first c.in_ok-law-in-30.ensures

pub returns-in-Some : goal.returns-in-Some
returns-in-Some c = plain_read _ _ _ _ c.in_ok-number.ensures (sym c.plain_kind.ensures ∙ c.in-Some.is)
