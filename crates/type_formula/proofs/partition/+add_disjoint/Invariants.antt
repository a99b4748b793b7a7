use Rattle.std.proofs.Common.{length}
use Rattle.type_formula.proofs.partition.+add_disjoint.Given as goal

abbrev pub decreases-add_disjoint : goal.decreases-add_disjoint
decreases-add_disjoint l = length l.parts.now
