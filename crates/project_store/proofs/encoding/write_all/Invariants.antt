use Rattle.std.proofs.Common.{◌≡◌, ◌++◌, take, drop}
use Rattle.std.specs.List.{flat_map, AllByRecursion}
use Rattle.proof_codec.specs.Entries.{entry_bytes, IsEntry}
use Rattle.project_store.proofs.encoding.write_all.Given as goal

abbrev pub invariant-loop-entry : goal.invariant-loop-entry
invariant-loop-entry l =
    (l.body.items ++ flat_map entry_bytes (drop l.entry-index l.entries) ≡ l.initial.body.items ++ flat_map entry_bytes l.entries)
    × AllByRecursion IsEntry (take l.entry-index l.entries)
