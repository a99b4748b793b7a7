use Rattle.std.proofs.Common.{take}
use Rattle.std.specs.List.{AllByRecursion}
use Rattle.proof_codec.specs.Private.{HasFitRules}
use Rattle.writable_entries.proofs.tree.+rules.Given as goal

abbrev pub invariant-have_fit_rules-loop-tree : goal.invariant-have_fit_rules-loop-tree
invariant-have_fit_rules-loop-tree l = AllByRecursion HasFitRules (take l.tree-index l.trees)
