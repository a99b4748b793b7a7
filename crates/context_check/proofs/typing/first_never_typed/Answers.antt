use Rattle.std.proofs.Common.{◌∙◌}
use Rattle.model_core.proofs.Firsts.{first_more}
use Rattle.check_rules.specs.Typed.{never_typed_row}
use Rattle.context_check.proofs.typing.first_never_typed.Goals as goal

pub loop-one-preserved : goal.loop-one-preserved
loop-one-preserved c =
    c.earlier-first.ensures ∙ first_more (never_typed_row c.args.component.now c.args.env.now) c.args.declared.now c.loop-one.one-index c.one-item.result c.loop-one.first c.in_ok-here.here
    c.loop-one-test.true c.one-item.is c.loop-one.invariant c.in_ok-here.ensures
