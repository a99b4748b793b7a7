-- An entry's parts, one after another, and the obligations before one.
use Rattle.std.specs.Prelude.{◌≡◌, ◌<◌, ⊤, ℕ, Option, Some, None, false, ◌≢◌, List, take}
use Rattle.std.specs.FinMap.{FinMap, insert, remove, len, contains_key}
use Rattle.std.specs.List.{AllByRecursion}
use Rattle.sequent_core.specs.declared.Obligation.{Obligation}
use Rattle.build_core.specs.Projects.{Project}
use Rattle.build_core.specs.Tables.{IsTableOf}
use Rattle.proof_entries.specs.declared.Entry.{Entry}
use Rattle.proof_entries.specs.declared.Entry.TheVariants.{Put, Drop, Build, SetProof, Purge}
use Rattle.proof_entries.specs.declared.Proof.{Proof}
use Rattle.core_steps.specs.Durable.{text_cmp, ProjectMap}
use Rattle.core_steps.specs.State.{without_all}

-- there is memory for a proof that the entry sets
abbrev pub FitsProof : FinMap text_cmp Proof → ℕ → Option Entry → Type 0
FitsProof proofs room (Some (SetProof name proof)) = contains_key proofs name ≡ false → len proofs < room
FitsProof proofs room _ = ⊤

-- there is memory for a text that the entry puts
abbrev pub FitsText : ProjectMap → ℕ → Option Entry → Type 0
FitsText texts room (Some (Put name text)) = contains_key texts name ≡ false → len texts < room
FitsText texts room _ = ⊤

abbrev pub with_proof : FinMap text_cmp Proof → Option Entry → FinMap text_cmp Proof
with_proof proofs (Some (SetProof name proof)) = insert proofs name proof
with_proof proofs _ = proofs

-- what is left of the entry beside a proof that it sets
abbrev pub but_proof : Option Entry → Option Entry
but_proof (Some (SetProof name proof)) = None
but_proof entry = entry

abbrev pub with_text : ProjectMap → Option Entry → ProjectMap
with_text texts (Some (Put name text)) = insert texts name text
with_text texts _ = texts

-- what is left of the entry beside a text that it puts
abbrev pub but_text : Option Entry → Option Entry
but_text (Some (Put name text)) = None
but_text entry = entry

abbrev pub without_text : ProjectMap → Option Entry → ProjectMap
without_text texts (Some (Drop name)) = remove texts name
without_text texts _ = texts

abbrev pub without_proofs : FinMap text_cmp Proof → Option Entry → FinMap text_cmp Proof
without_proofs proofs (Some (Purge names)) = without_all proofs names
without_proofs proofs _ = proofs

-- before this place no obligation has the name
abbrev pub AreOthersBefore : Project → List ℕ → ℕ → Type 0
AreOthersBefore project name at = (table : List Obligation) → IsTableOf project table → AllByRecursion (λ o. o.name ≢ name) (take at table)
