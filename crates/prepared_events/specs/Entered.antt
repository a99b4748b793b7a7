-- The parts of what lasts after an entry.
use Rattle.std.specs.Prelude.{Option, Some}
use Rattle.std.specs.FinMap.{FinMap, insert, remove}
use Rattle.proof_entries.specs.declared.Entry.{Entry}
use Rattle.proof_entries.specs.declared.Entry.TheVariants.{Put, Drop, Build, SetProof, Purge}
use Rattle.proof_entries.specs.declared.Proof.{Proof}
use Rattle.core_steps.specs.Durable.{text_cmp, ProjectMap}
use Rattle.core_steps.specs.State.{without_all}

-- the texts after the entry
abbrev pub texts_after : ProjectMap → Option Entry → ProjectMap
texts_after texts (Some (Put name text)) = insert texts name text
texts_after texts (Some (Drop name)) = remove texts name
texts_after texts _ = texts

-- the texts of the last build after the entry, beside the present texts
abbrev pub built_after : ProjectMap → ProjectMap → Option Entry → ProjectMap
built_after texts built (Some Build) = texts
built_after texts built _ = built

-- the stored proofs after the entry
abbrev pub proofs_after : FinMap text_cmp Proof → Option Entry → FinMap text_cmp Proof
proofs_after proofs (Some (SetProof name proof)) = insert proofs name proof
proofs_after proofs (Some (Purge names)) = without_all proofs names
proofs_after proofs _ = proofs
