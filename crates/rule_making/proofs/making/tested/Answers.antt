use Rattle.rule_table.specs.Rules.{IsSound, body_of, used_of}
use Rattle.std.proofs.Common.{◌≡◌}
use Rattle.rule_making.specs.declared.fault.RuleFault.TheVariants as fault
use Rattle.rule_making.specs.Make.{IsWithinSizes}
use Rattle.rule_making.specs.Private.{TestsBody}
use Rattle.rule_making.proofs.Answered.{exit_with}
use Rattle.rule_making.proofs.Tested.{no_test, test, some_test, none_test, of_some, kept, unsound}
use Rattle.rule_making.proofs.making.tested.Goals as goal

pub returns-then-not-is_small : goal.returns-then-not-is_small
returns-then-not-is_small c =
    no_test c.is_small.result (IsWithinSizes c.args.rule.kind (body_of c.args.rule)) c.is_small.ensures c.if-not-is_small.true

pub returns-in_err-used : goal.returns-in_err-used
returns-in_err-used c =
    exit_with (TestsBody c.args.sequent.now c.args.rule.kind (body_of c.args.rule)) c.from_residual.result fault.OutOfMemory c.from_residual.ensures.1 tt

pub with_names-requires : goal.with_names-requires
with_names-requires c =
    of_some c.in_ok-used.field-0 c.in-Some.used (λ used. used ≡ used_of c.args.rule.kind (body_of c.args.rule)) c.in_ok-used.ensures.used c.in-Some.is

pub returns-in-Some : goal.returns-in-Some
returns-in-Some c =
    kept c.args.sequent.now c.args.rule.kind (body_of c.args.rule) c.with_names.result c.if_applies.result c.with_names.ensures c.requires
    (some_test c.in_ok-used.field-0 c.in-Some.used (IsSound c.args.rule.kind (body_of c.args.rule)) c.in_ok-used.ensures.sound c.in-Some.is)
    (test c.is_small.result (IsWithinSizes c.args.rule.kind (body_of c.args.rule)) c.is_small.ensures c.if-not-is_small.false)
    c.if_applies.ensures

pub returns-in-None : goal.returns-in-None
returns-in-None c =
    unsound c.args.sequent.now c.args.rule.kind (body_of c.args.rule)
    (test c.is_small.result (IsWithinSizes c.args.rule.kind (body_of c.args.rule)) c.is_small.ensures c.if-not-is_small.false)
    (none_test c.in_ok-used.field-0 (IsSound c.args.rule.kind (body_of c.args.rule)) c.in_ok-used.ensures.sound c.in-None.is)
