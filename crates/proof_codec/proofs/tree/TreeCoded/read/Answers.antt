use Rattle.std.proofs.Common.{arith}
use Rattle.proof_codec.proofs.Heights.{tree_read}
use Rattle.proof_codec.proofs.tree.TreeCoded.read.Goals as goal

pub returns : goal.returns
returns c = tree_read _ _ _ c.in_ok-tree.ensures (omega (arith, c.node_count.ensures))
