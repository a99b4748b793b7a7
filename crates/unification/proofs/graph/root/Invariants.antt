use Rattle.std.proofs.Common.{◌≡◌, ℕ, ◌<◌, length}
use Rattle.formula_core.specs.declared.ty.Ty.{Ty}
use Rattle.unification.specs.PrivateGraph.{Holds, Alike}
use Rattle.unification.proofs.graph.root.Given as goal

-- the same types, and the place reached has that of the first one
abbrev pub invariant-loop-next : goal.invariant-loop-next
invariant-loop-next l = record {
  alike : Alike l.initial.nodes.items l.nodes.items;
  inside : l.at < length l.nodes.items;
  same : (u : ℕ → Ty) → Holds u l.initial.nodes.items → u l.from ≡ u l.at;
}

abbrev pub decreases-loop-next : goal.decreases-loop-next
decreases-loop-next l = l.at
