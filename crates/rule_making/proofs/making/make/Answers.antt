use Rattle.std.proofs.Common.{◌≡◌, ◌∙◌, sym, ap}
use Rattle.std.specs.Prelude.{IfOk}
use Rattle.rule_making.specs.declared.fault.RuleFault.TheVariants as fault
use Rattle.rule_making.specs.Make.{Answers, FitsAt}
use Rattle.rule_making.proofs.Answered.{exit_with, with_terms, bad_term, over_fits}
use Rattle.rule_making.proofs.making.make.Goals as goal

pub returns-then-not-has_places-clause-answer : goal.returns-then-not-has_places-clause-answer
returns-then-not-has_places-clause-answer c = sym c.has_places.ensures ∙ c.if-not-has_places.true

pub returns-in_err-terms-clause-answer : goal.returns-in_err-terms-clause-answer
returns-in_err-terms-clause-answer c =
    exit_with (Answers c.args.kind c.args.hint.now c.args.sequent.now) c.from_residual.result fault.OutOfMemory c.from_residual.ensures.1 tt

pub returns-in_err-terms-clause-fits : goal.returns-in_err-terms-clause-fits
returns-in_err-terms-clause-fits c =
    exit_with (λ r. IfOk r (λ x. FitsAt x c.args.sequent.now)) c.from_residual.result fault.OutOfMemory c.from_residual.ensures.1 tt

pub returns-in-Some-clause-answer : goal.returns-in-Some-clause-answer
returns-in-Some-clause-answer c =
    with_terms c.args.kind c.args.hint.now c.args.sequent.now c.has_places.result c.replaced_types-types.result.now c.items.result.now c.in_ok-terms.field-0 c.in-Some.terms c.items-in-Some.result.now c.make_with.result
    c.has_places.ensures c.if-not-has_places.false c.replaced_types-types.ensures c.items.ensures c.in-Some.is c.items-in-Some.ensures c.in_ok-terms.ensures c.make_with.ensures

pub returns-in-Some-clause-fits : goal.returns-in-Some-clause-fits
returns-in-Some-clause-fits c = over_fits c.args.kind c.args.hint.now c.args.sequent.now c.items-in-Some.result.now c.make_with.result c.make_with.ensures

pub returns-in-None-clause-answer : goal.returns-in-None-clause-answer
returns-in-None-clause-answer c =
    bad_term c.args.kind c.args.hint.now c.args.sequent.now c.has_places.result c.replaced_types-types.result.now c.items.result.now c.in_ok-terms.field-0
    c.has_places.ensures c.if-not-has_places.false c.replaced_types-types.ensures c.items.ensures c.in-None.is c.in_ok-terms.ensures
