use Rattle.std.proofs.Common.{[], map}
use Rattle.check_rules.specs.Components.{contexts_in}
use Rattle.context_check.proofs.Contexts.{contexts_append}
use Rattle.context_check.proofs.Views.{grows}
use Rattle.context_check.proofs.context.contexts_in.Goals as goal

pub loop-part-preserved : goal.loop-part-preserved
loop-part-preserved c =
    grows (λ ps. contexts_in (map (λ p. p.now) ps)) (contexts_append (λ p. p.now)) c.args.parts.now c.loop-part.part-index c.part-item.result
    [] (map (λ c. c.now) c.loop-part.contexts.items) (map (λ c. c.now) c.add_context_in.new.contexts.items) c.loop-part-test.true c.part-item.is c.loop-part.invariant c.in_ok-add_context_in.ensures
