use Rattle.std.proofs.Common.{◌&&◌, not, bytes_eq}
use Rattle.formula_core.specs.Types.{same_type}
use Rattle.refine_check.specs.Private.{is_other_there}
use Rattle.refine_check.proofs.OtherTypes.{none_before, any_more}
use Rattle.refine_check.proofs.param_types.note_types.Goals as goal

pub loop-param-init : goal.loop-param-init
loop-param-init c = λ p. none_before (is_other_there c.args.types.now p)

pub loop-param-preserved : goal.loop-param-preserved
loop-param-preserved c = λ p.
    any_more (λ q. bytes_eq q.0 p.0 && not (same_type q.1 p.1)) c.args.params.now c.loop-param.param-index c.param-item.result (is_other_there c.args.types.now p)
    (is_other_there c.loop-param.types p) (is_other_there c.note_type.new.types p) c.loop-param-test.true c.param-item.is (c.loop-param.invariant p) (c.in_ok-note_type.ensures p)
