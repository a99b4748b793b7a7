use Rattle.std.proofs.Common.{◌+◌, ◌*◌, length}
use Rattle.unification.specs.PrivateGraph.{unlinked}
use Rattle.unification.proofs.Merges.{Merging}
use Rattle.unification.proofs.merging.merge.Given as goal

abbrev pub invariant-loop-pair : goal.invariant-loop-pair
invariant-loop-pair l = Merging l.initial.nodes.items l.initial.pairs.items l.nodes.items l.pairs.items

-- each join leaves one place less without a link, and at most two pairs more
abbrev pub decreases-loop-pair : goal.decreases-loop-pair
decreases-loop-pair l = 3 * unlinked l.nodes.items + length l.pairs.items
