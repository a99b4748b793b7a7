use Rattle.std.proofs.Common.{sym}
use Rattle.proof_tree.specs.Ways.{antecedents_of}
use Rattle.proof_tree.proofs.WayEnds.{first_at_end}
use Rattle.proof_tree.proofs.way.Way.lacks.Goals as goal

pub returns-in-Some : goal.returns-in-Some
returns-in-Some c = (λ h. cc, λ n. let there = first_at_end (antecedents_of c.args.self.now) c.args.sequent.now c.args.name.now c.in-Some.field-0.now (sym c.in-Some.ensures) in cc)
