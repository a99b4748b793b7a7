use Rattle.std.proofs.Common.{◌≡◌, replicate}
use Rattle.unification.specs.declared.graph.Node.TheVariants.{Free}
use Rattle.unification.proofs.building.free_places.Given as goal

abbrev pub invariant-loop : goal.invariant-loop
invariant-loop l = l.nodes.items ≡ replicate l.counter Free
