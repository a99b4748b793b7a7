-- What the records on two sides stand for.
use Rattle.std.specs.Prelude.{◌≡◌, ◌≢◌, ◌⊎◌, ◌≤◌, ℕ, List, [], ◌∷◌, map, Some}
use Rattle.std.specs.List.{flat_map}
use Rattle.std.specs.FinMap.{len}
use Rattle.outside.specs.Disk.{Sides}
use Rattle.outside.specs.declared.side.Side.{Side}
use Rattle.journal_core.specs.Sides.{StandsAt}
use Rattle.proof_entries.specs.declared.Entry.{Entry}
use Rattle.proof_entries.specs.declared.Entry.TheVariants.{Build}
use Rattle.proof_codec.specs.Entries.{entry_bytes, AreEntries, AreOldEntries}
use Rattle.core_steps.specs.declared.durable.Durable.{Durable}
use Rattle.core_steps.specs.State.{after, no_texts}
use Rattle.core_steps.specs.StateEntries.{state_entries}

-- the body of a record: version 2, and entries
abbrev pub record_body : List Entry → List ℕ
record_body entries = 2 ∷ flat_map entry_bytes entries

-- the byte of a version, and then these entries
pub record IsInVersion (version : ℕ) (AreSpelled : List Entry → List ℕ → Type 0) (body : List ℕ) (entries : List Entry) : Type 0 where
  pub bytes : List ℕ
  pub split : body ≡ version ∷ bytes
  pub spelled : AreSpelled entries bytes

-- these entries in version 2 or 1
abbrev pub AreIn : List ℕ → List Entry → Type 0
AreIn body entries = IsInVersion 2 AreEntries body entries ⊎ IsInVersion 1 AreOldEntries body entries

-- a record's body is these entries, at least one
pub record IsBody (body : List ℕ) (entries : List Entry) : Type 0 where
  pub some : entries ≢ []
  pub version : AreIn body entries

-- the project has at most 256 texts
abbrev pub IsSmall : Durable → Type 0
IsSmall d = len d.texts ≤ 256

-- the durable after all these entries
abbrev pub after_all : Durable → List Entry → Durable
after_all d entries = after d (map Some entries)

-- these records lead from one durable to the other, and after each of them the project is small
abbrev pub Leads : Durable → List (List ℕ) → Durable → Type 0
Leads d [] e = e ≡ d
Leads d (body ∷ bodies) e = (entries : List Entry) × IsBody body entries × IsSmall (after_all d entries) × Leads (after_all d entries) bodies e

-- the sides stand for this durable, by records that this side has in this generation
pub record RecoversAt (sides : Sides) (side : Side) (generation : ℕ) (d : Durable) : Type 0 where
  pub bodies : List (List ℕ)
  pub stands : StandsAt sides side generation bodies
  pub leads : Leads no_texts bodies d

-- the sides stand for this durable
abbrev pub Recovers : Sides → Durable → Type 0
Recovers sides d = (side : Side) × (generation : ℕ) × RecoversAt sides side generation d

abbrev pub or_build : List Entry → List Entry
or_build [] = Build ∷ []
or_build (entry ∷ entries) = entry ∷ entries

-- the entries of a checkpoint: those of the state, or a build where there are none
abbrev pub checkpoint_entries : Durable → List Entry
checkpoint_entries d = or_build (state_entries d)
