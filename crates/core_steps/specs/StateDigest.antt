-- The digest of what lasts of a project.
use Rattle.std.specs.Prelude.{ℕ, List}
use Rattle.std.specs.List.{flat_map}
use Rattle.sha2.specs.Sha256.{sha256}
use Rattle.proof_codec.specs.Entries.{entry_bytes}
use Rattle.core_steps.specs.declared.durable.Durable.{Durable}
use Rattle.core_steps.specs.StateEntries.{state_entries}

-- SHA-256 of the bytes of the state's entries
unfoldable pub state_digest : Durable → List ℕ
state_digest d = sha256 (flat_map entry_bytes (state_entries d))
