use Rattle.std.proofs.Common.{map}
use Rattle.build_core.proofs.Referred.{one_part}
use Rattle.build_core.proofs.parts.add_parts.Goals as goal

pub loop-reference-preserved : goal.loop-reference-preserved
loop-reference-preserved c =
    one_part c.args.outcomes.now c.args.references.now c.loop-reference.reference-index c.reference-item.result _ (map (λ p. p.now) c.args.parts.now.items)
    (map (λ p. p.now) c.loop-reference.parts.items) (map (λ p. p.now) c.add_part.new.parts.items) c.loop-reference-test.true c.reference-item.is
    c.loop-reference.invariant c.get.ensures c.in_ok-add_part.ensures
