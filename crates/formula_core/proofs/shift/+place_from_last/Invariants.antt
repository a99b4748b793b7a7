use Rattle.std.proofs.Common.{length}
use Rattle.formula_core.proofs.shift.+place_from_last.Given as goal

abbrev pub decreases-place_from_last : goal.decreases-place_from_last
decreases-place_from_last l = length l.identifiers.now
