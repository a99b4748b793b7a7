use Rattle.std.proofs.Common.{◌++◌, map, take}
use Rattle.std.specs.List.{flat_map}
use Rattle.sha2.specs.Hashers.{Holds256}
use Rattle.proof_entries.specs.declared.Entry.TheVariants.{SetProof}
use Rattle.proof_codec.specs.Entries.{entry_bytes}
use Rattle.durable_entries.proofs.digest.digest_of.Given as goal

abbrev pub invariant-loop-entry : goal.invariant-loop-entry
invariant-loop-entry l = Holds256 l.hasher (flat_map entry_bytes (take l.entry-index l.entries))

abbrev pub invariant-loop-name : goal.invariant-loop-name
invariant-loop-name l = Holds256 l.hasher (flat_map entry_bytes (l.entries ++ map (λ e. SetProof e.0 e.1) (take l.name-index l.name-items)))
