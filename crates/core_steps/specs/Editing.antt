-- Edits, deletes, builds and purges.
use Rattle.std.specs.Prelude.{◌≡◌, ◌⊎◌, ℕ, ◌<◌, ◌≤◌, Bool, not, List, length, true, false, filter}
use Rattle.std.specs.FinMap.{FinMap, len, contains_key, keys}
use Rattle.formula_core.specs.Names.{is_identifier}
use Rattle.sequent_core.specs.declared.Obligation.{Obligation}
use Rattle.build_core.specs.declared.FaultLine.{FaultLine}
use Rattle.proof_entries.specs.declared.Proof.{Proof}
use Rattle.proof_entries.specs.declared.Entry.TheVariants.{Put, Drop, Build as BuildEntry, Purge}
use Rattle.core_steps.specs.declared.events.Reply.TheVariants.{BadName, TextTooLong, ProjectFull, Edited, NoSuch, Deleted, Built, TableFull, Purged}
use Rattle.core_steps.specs.Durable.{text_cmp, ProjectMap}
use Rattle.core_steps.specs.Faults.{AreFaults}
use Rattle.core_steps.specs.Table.{IsTableWithin, IsTooLarge, is_obligation}
use Rattle.core_steps.specs.State.{State}
use Rattle.core_steps.specs.Outcomes.{StepOutcome, told, entering, Unless}

-- the project has 256 components, and none of this name
abbrev pub IsFullFor : ProjectMap → List ℕ → Type 0
IsFullFor texts name = (contains_key texts name ≡ false) × (256 ≤ len texts)

-- an edit sets the text, unless the name is primed, the text too long, or the project full
pub data Edits (s : State) (name text : List ℕ) (x : StepOutcome) : Type 0 where
  bad_name : (is_identifier name ≡ true → ⊥) → x ≡ told s BadName → Edits s name text x
  text_too_long : is_identifier name ≡ true → 65536 < length text → x ≡ told s TextTooLong → Edits s name text x
  project_full : is_identifier name ≡ true → (65536 < length text → ⊥) → IsFullFor s.durable.texts name → x ≡ told s ProjectFull → Edits s name text x
  edited : is_identifier name ≡ true → (65536 < length text → ⊥) → (IsFullFor s.durable.texts name → ⊥) → x ≡ entering s (Edited name) (Put name text) →
      Edits s name text x

-- a delete drops the text, unless there is none
abbrev pub Deletes : State → List ℕ → StepOutcome → Type 0
Deletes s name x =
    Unless (contains_key s.durable.texts name ≡ true) (x ≡ told s (NoSuch name))
    (x ≡ entering s (Deleted name) (Drop name))

-- the texts are built, unless their table is too large
abbrev pub Builds : State → StepOutcome → Type 0
Builds s x =
    ((n : ℕ) × IsTooLarge s.durable.texts n × (x ≡ told s (TableFull n)))
    ⊎ ((table : List Obligation) × (faults : List FaultLine) × IsTableWithin s.durable.texts table × AreFaults s.durable.texts faults
    × (x ≡ entering s (Built (len s.durable.texts) (length faults) (length table)) BuildEntry))

-- the names of the stored proofs that the table lacks, in byte order
abbrev pub lacking : FinMap text_cmp Proof → List Obligation → List (List ℕ)
lacking proofs table = filter (λ name. not (is_obligation table name)) (keys proofs)

-- a purge removes the proofs that the table lacks, also where there are none
abbrev pub Purges : State → List Obligation → StepOutcome → Type 0
Purges s table x = x ≡ entering s (Purged (length (lacking s.durable.proofs table))) (Purge (lacking s.durable.proofs table))
