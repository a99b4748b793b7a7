use Rattle.std.proofs.Common.{◌≡◌, map, take}
use Rattle.sequent_core.specs.declared.tree.Tree.TheVariants.{Leaf}
use Rattle.proof_strategies.proofs.one.leaves_for.Given as goal

abbrev pub invariant-loop : goal.invariant-loop
invariant-loop l = l.leaves.items ≡ map (λ a. Leaf) (take l.index l.antecedents)
