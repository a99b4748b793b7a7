use Rattle.proof_deps.proofs.Ways.{hyps_under, here, further}
use Rattle.proof_deps.proofs.way.Way.+adds.Goals as goal

pub returns-then-is_among : goal.returns-then-is_among
returns-then-is_among t c = λ s. here _ _ c.items.result.now _ _ _ (hyps_under _ c.in-Below.antecedent c.in-Below.above c.in-Below.is _ c.items.ensures s) c.if-is_among.true (c.is_among.ensures.0 c.if-is_among.true)

pub returns-else-is_among : goal.returns-else-is_among
returns-else-is_among t c = λ s. further _ _ c.items.result.now _ _ (hyps_under _ c.in-Below.antecedent c.in-Below.above c.in-Below.is _ c.items.ensures s) (λ h. let yes = c.is_among.ensures.1 h in let other = c.if-is_among.false in cc) ((c.adds.ensures s).0) ((c.adds.ensures s).1)
