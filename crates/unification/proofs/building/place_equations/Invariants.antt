use Rattle.std.proofs.Common.{length}
use Rattle.unification.specs.Solutions.{equations_of}
use Rattle.unification.proofs.Places.{Placing}
use Rattle.unification.proofs.building.place_equations.Given as goal

abbrev pub invariant-loop-equation : goal.invariant-loop-equation
invariant-loop-equation l = Placing (equations_of l.initial.pending.items) (equations_of l.pending.items) l.initial.nodes.items l.nodes.items l.pairs.items

abbrev pub decreases-loop-equation : goal.decreases-loop-equation
decreases-loop-equation l = length l.pending.items
