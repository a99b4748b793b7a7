use Rattle.std.proofs.Common.{length}
use Rattle.type_formula.proofs.scope.+find_bound.Given as goal

abbrev pub decreases-find_bound : goal.decreases-find_bound
decreases-find_bound l = length l.scope.now
