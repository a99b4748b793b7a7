use Rattle.std.proofs.Common.{◌≡◌, ◌∙◌, sym, ap, [], Some}
use Rattle.std.specs.Option.{option_copied}
use Rattle.rule_making.specs.declared.fault.RuleFault.TheVariants as fault
use Rattle.rule_making.specs.Make.{first_taken}
use Rattle.rule_making.specs.Private.{AnswersOver}
use Rattle.rule_making.proofs.Answered.{exit_with, taken, no_kind, finds_main}
use Rattle.rule_making.proofs.making.make_with.Goals as goal

pub returns-in_err-name : goal.returns-in_err-name
returns-in_err-name c =
    exit_with (AnswersOver c.args.number c.args.hint.now c.args.terms.now c.args.sequent.now) c.from_residual.result fault.OutOfMemory c.from_residual.ensures.1 tt

pub returns-in-Some : goal.returns-in-Some
returns-in-Some c =
    taken c.args.number c.args.hint.now c.args.terms.now c.args.sequent.now c.in_ok-name.name
    (sym (c.first_taken.ensures ∙ ap (first_taken c.args.sequent.now.env []) c.items.ensures) ∙ ap option_copied c.in-Some.is ∙ ap Some (sym c.in_ok-name.ensures))

pub returns-in_err-kind : goal.returns-in_err-kind
returns-in_err-kind c =
    exit_with (AnswersOver c.args.number c.args.hint.now c.args.terms.now c.args.sequent.now) c.from_residual-in_err-kind.result fault.OutOfMemory c.from_residual-in_err-kind.ensures.1 tt

pub returns-in_err-main-in-Some-2 : goal.returns-in_err-main-in-Some-2
returns-in_err-main-in-Some-2 c =
    exit_with (AnswersOver c.args.number c.args.hint.now c.args.terms.now c.args.sequent.now) c.from_residual-in_err-main-in-Some-2.result fault.OutOfMemory c.from_residual-in_err-main-in-Some-2.ensures.1 tt

pub returns-in_ok-main-in-Some-2 : goal.returns-in_ok-main-in-Some-2
returns-in_ok-main-in-Some-2 c =
    finds_main c.args.number c.args.hint.now c.args.terms.now c.args.sequent.now c.in_ok-kind.field-0 c.in-Some-2.kind c.in_ok-main-in-Some-2.main c.make_from.result
    (sym (c.first_taken.ensures ∙ ap (first_taken c.args.sequent.now.env []) c.items.ensures) ∙ ap option_copied c.in_default.is) c.in_ok-kind.ensures c.in-Some-2.is c.in_ok-main-in-Some-2.ensures c.make_from.ensures

pub returns-in-None : goal.returns-in-None
returns-in-None c =
    no_kind c.args.number c.args.hint.now c.args.terms.now c.args.sequent.now
    (sym (c.first_taken.ensures ∙ ap (first_taken c.args.sequent.now.env []) c.items.ensures) ∙ ap option_copied c.in_default.is) (sym c.in_ok-kind.ensures ∙ c.in-None.is)
