use Rattle.std.proofs.Common.{length}
use Rattle.proof_codec.specs.Entries.{IsEntryBy, bytes_by}
use Rattle.proof_codec.proofs.Chains.{IsChain}
use Rattle.proof_codec.proofs.entry.entries.Given as goal

abbrev pub invariant-loop-from : goal.invariant-loop-from
invariant-loop-from g l = IsChain (IsEntryBy g.V.Version.IsGoodProof) (bytes_by g.V.Version.proof_bytes) l.bytes l.entries.items l.from

abbrev pub decreases-loop-from : goal.decreases-loop-from
decreases-loop-from g l = length l.from
