use Rattle.std.proofs.Common.{◌≡◌, fold}
use Rattle.well_defined.specs.Predicates.{top}
use Rattle.well_defined.specs.Connectives.{conjoined}
use Rattle.well_defined.proofs.connective.all.Given as goal

abbrev pub invariant-loop-condition : goal.invariant-loop-condition
invariant-loop-condition l = l.conjunction ≡ fold conjoined top l.yielded
