use Rattle.std.proofs.Common.{◌∙◌, ◌+◌, ◌||◌, sym, ap, drop}
use Rattle.std.proofs.Math.ListN.{drop_of_length-le}
use Rattle.std.specs.List.{list_any}
use Rattle.refine_check.specs.Private.{is_other_there}
use Rattle.refine_check.proofs.OtherTypes.{any_next}
use Rattle.refine_check.proofs.param_types.has_other_there.Goals as goal

pub loop-param-preserved : goal.loop-param-preserved
loop-param-preserved c =
    let test = is_other_there c.args.types.now in
    let rest = list_any test (drop (c.loop-param.param-index + 1) c.args.params.now) in
    sym (any_next test c.args.params.now c.loop-param.param-index c.param-item.result c.is_other_there.result c.loop-param-test.true c.param-item.is c.is_other_there.ensures
    ∙ ap (λ b. b || rest) c.if-is_other_there.false)
    ∙ c.loop-param.invariant

pub returns-then-is_other_there : goal.returns-then-is_other_there
returns-then-is_other_there c =
    let test = is_other_there c.args.types.now in
    let rest = list_any test (drop (c.loop-param.param-index + 1) c.args.params.now) in
    sym (any_next test c.args.params.now c.loop-param.param-index c.param-item.result c.is_other_there.result c.loop-param-test.true c.param-item.is c.is_other_there.ensures
    ∙ ap (λ b. b || rest) c.if-is_other_there.true)
    ∙ c.loop-param.invariant

pub returns : goal.returns
returns c =
    sym (ap (list_any (is_other_there c.args.types.now)) (drop_of_length-le c.args.params.now c.loop-param-test.false)) ∙ c.loop-param.invariant
