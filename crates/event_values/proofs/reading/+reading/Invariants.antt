use Rattle.std.proofs.Common.{length}
use Rattle.event_values.specs.Reading.{text_value}
use Rattle.event_values.proofs.Cutting.{IsSoFar}
use Rattle.event_values.proofs.reading.+reading.Given as goal

abbrev pub invariant-values_in-loop-found : goal.invariant-values_in-loop-found
invariant-values_in-loop-found l = IsSoFar (text_value l.sizes l.ty) l.text l.found.items l.rest

abbrev pub decreases-values_in-loop-found : goal.decreases-values_in-loop-found
decreases-values_in-loop-found l = length l.rest
