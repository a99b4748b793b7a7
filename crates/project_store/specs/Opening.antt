-- What a start answers, and what it makes of the sides.
use Rattle.std.specs.Prelude.{◌≡◌, ◌⊎◌, ⊤, ℕ, ◌+◌, List, ◌∷◌, ◌++◌, length}
use Rattle.outside.specs.Disk.{Sides}
use Rattle.outside.specs.declared.side.Side.{Side}
use Rattle.journal_core.specs.Sides.{StandsAt, open_records}
use Rattle.journal_core.specs.Start.{JournalStandsFor, foreign as no_journal, damaged as no_record}
use Rattle.proof_entries.specs.declared.Entry.{Entry}
use Rattle.core_steps.specs.declared.durable.Durable.{Durable}
use Rattle.core_steps.specs.State.{no_texts}
use Rattle.core_steps.specs.Table.{IsTooLarge}
use Rattle.project_store.specs.declared.fault.OpenFault.{OpenFault}
use Rattle.project_store.specs.declared.fault.OpenFault.TheVariants.{Foreign, Damaged, TableFull, DiskFault, OutOfMemory}
use Rattle.project_store.specs.Records.{IsBody, IsSmall, after_all, Leads, Recovers}

-- this body isn't entries that lead on from the durable to a small project
abbrev pub IsStop : Durable → List ℕ → Type 0
IsStop d body = (entries : List Entry) → IsBody body entries → IsSmall (after_all d entries) → ⊥

-- behind records that lead on stands one, at this gate, that doesn't
pub record HasStop (bodies : List (List ℕ)) (gate : ℕ) : Type 0 where
  pub before : List (List ℕ)
  pub first : List ℕ
  pub behind : List (List ℕ)
  pub parts : bodies ≡ before ++ first ∷ behind
  pub at : gate ≡ 16 + length (open_records before)
  pub durable : Durable
  pub leads : Leads no_texts before durable
  pub stop : IsStop durable first

-- the side that counts has a record, at this gate, that isn't entries or after which the project has too many texts
pub record HasBadRecord (sides : Sides) (side : Side) (gate : ℕ) : Type 0 where
  pub generation : ℕ
  pub bodies : List (List ℕ)
  pub stands : StandsAt sides side generation bodies
  pub stop : HasStop bodies gate

-- what sides may stand for
pub data StoreMeaning : Type 0 where
  durable : Durable → StoreMeaning
  foreign : Side → StoreMeaning
  damaged : Side → ℕ → StoreMeaning

abbrev pub StandsFor : Sides → StoreMeaning → Type 0
StandsFor sides (durable d) = Recovers sides d
StandsFor sides (foreign side) = JournalStandsFor sides (no_journal side)
StandsFor sides (damaged side gate) = JournalStandsFor sides (no_record side gate) ⊎ HasBadRecord sides side gate

-- what one stands for, the other does
abbrev pub StandsAs : Sides → Sides → Type 0
StandsAs old new = (meaning : StoreMeaning) → StandsFor old meaning → StandsFor new meaning

-- a stop left what stands for what a stop left then
abbrev pub StandsAsSome : (Sides → Type 0) → Sides → Type 0
StandsAsSome images now = (before : Sides) × images before × StandsAs before now

-- when a start may answer this fault; a fault of the disk has a clause of its own, and want of memory is free
abbrev pub IsCause : Sides → OpenFault → Type 0
IsCause sides (Foreign side) = StandsFor sides (foreign side)
IsCause sides (Damaged side gate) = StandsFor sides (damaged side gate)
IsCause sides (TableFull n) = (d : Durable) × Recovers sides d × IsTooLarge d.built n
IsCause sides DiskFault = ⊤
IsCause sides OutOfMemory = ⊤

-- what sides that stand for this make a start answer; a fault of the disk and want of memory come before it
abbrev pub IsAnswerFor : StoreMeaning → OpenFault → Type 0
IsAnswerFor meaning (Foreign side) = meaning ≡ foreign side
IsAnswerFor meaning (Damaged side gate) = meaning ≡ damaged side gate
IsAnswerFor meaning (TableFull n) = (d : Durable) × (meaning ≡ durable d) × IsTooLarge d.built n
IsAnswerFor meaning DiskFault = ⊤
IsAnswerFor meaning OutOfMemory = ⊤
