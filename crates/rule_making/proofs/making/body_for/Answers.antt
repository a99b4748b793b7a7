use Rattle.std.proofs.Common.{◌∙◌, sym}
use Rattle.rule_making.specs.declared.fault.RuleFault.TheVariants as fault
use Rattle.rule_making.specs.Private.{GivesBody}
use Rattle.rule_making.proofs.Answered.{exit_with}
use Rattle.rule_making.proofs.making.body_for.Goals as goal

pub returns-in_err-m : goal.returns-in_err-m
returns-in_err-m c = exit_with (GivesBody c.args.kind.now c.args.main.now) c.from_residual.result fault.OutOfMemory c.from_residual.ensures.1 tt

pub returns-in_err-body : goal.returns-in_err-body
returns-in_err-body c = exit_with (GivesBody c.args.kind.now c.args.main.now) c.from_residual-in_err-body.result fault.OutOfMemory c.from_residual-in_err-body.ensures.1 tt

pub returns-in-Some-2 : goal.returns-in-Some-2
returns-in-Some-2 c = (sym c.in_ok-m.ensures ∙ c.in_default.is, sym c.in_ok-body.ensures ∙ c.in-Some-2.is)

pub returns-in-None : goal.returns-in-None
returns-in-None c = (sym c.in_ok-m.ensures ∙ c.in_default.is, sym c.in_ok-body.ensures ∙ c.in-None.is)

pub returns-in_err-large : goal.returns-in_err-large
returns-in_err-large c = exit_with (GivesBody c.args.kind.now c.args.main.now) c.from_residual-in_err-large.result fault.OutOfMemory c.from_residual-in_err-large.ensures.1 tt

pub fault_of_large-requires-clause-width : goal.fault_of_large-requires-clause-width
fault_of_large-requires-clause-width c = sym c.in_ok-m.ensures ∙ c.in_default.is

pub fault_of_large-requires-clause-large : goal.fault_of_large-requires-clause-large
fault_of_large-requires-clause-large c = c.in_ok-large.ensures.large c.if-large.true
