use Rattle.std.proofs.Common.{◌+◌, ◌*◌, map, sum, take}
use Rattle.sequent_core.specs.Trees.{node_count}
use Rattle.proof_strategies.specs.Private.{HaveGrown}
use Rattle.proof_strategies.proofs.growing.+grow.Given as goal

-- the rules that are left count most, then the nodes
abbrev pub decreases-grow : goal.decreases-grow
decreases-grow g l = l.room.now.rules * 8192 + 3 * node_count l.tree.now

abbrev pub decreases-grow_each : goal.decreases-grow_each
decreases-grow_each g l = l.room.now.rules * 8192 + 3 * sum (map node_count l.trees.now) + 2

abbrev pub decreases-grow_below : goal.decreases-grow_below
decreases-grow_below g l = l.room.now.rules * 8192 + 3 * node_count l.tree.now + 1

abbrev pub decreases-grow_leaf : goal.decreases-grow_leaf
decreases-grow_leaf g l = l.room.now.rules * 8192 + 2

abbrev pub invariant-grow_each-loop-i : goal.invariant-grow_each-loop-i
invariant-grow_each-loop-i g l =
    HaveGrown (g.S.Strategy.gives l.grower.strategy.now) l.grower.times (take l.i l.trees) (take l.i l.antecedents) l.sequent l.initial.room l.grown.items l.room
