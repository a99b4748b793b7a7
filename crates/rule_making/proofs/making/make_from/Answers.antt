use Rattle.rule_making.specs.Private.{FindsRule}
use Rattle.rule_making.proofs.Answered.{exit_with, refused_finds, tests_find}
use Rattle.rule_making.proofs.Reread.{named_is_instance}
use Rattle.rule_making.proofs.Tested.{instance_of, tests_of}
use Rattle.rule_making.proofs.making.make_from.Goals as goal

pub returns-in_err-body : goal.returns-in_err-body
returns-in_err-body c =
    exit_with (FindsRule c.args.sequent.now c.args.kind c.args.main.now) c.from_residual.result c.in_err-body.field-0.0 c.from_residual.ensures.1
    (refused_finds c.args.sequent.now c.args.kind c.args.main.now c.in_err-body.field-0.0 c.in_err-body.ensures)

pub tested-requires : goal.tested-requires
tested-requires c =
    instance_of c.without_names.result c.args.kind c.in_ok-body.body c.without_names.ensures.kind c.without_names.ensures.body
    (named_is_instance c.args.kind c.args.main.now c.in_ok-body.body c.in_ok-body.ensures.1)

pub returns : goal.returns
returns c =
    tests_find c.args.sequent.now c.args.kind c.args.main.now c.in_ok-body.body c.tested.result c.in_ok-body.ensures
    (tests_of c.args.sequent.now c.without_names.result c.args.kind c.in_ok-body.body c.tested.result c.without_names.ensures.kind c.without_names.ensures.body c.tested.ensures)
