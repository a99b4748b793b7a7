-- Laws of what is stored.
use Rattle.std.specs.Prelude.{◌≡◌, ℕ, List, map}
use Rattle.outside.specs.Disk.{Sides}
use Rattle.proof_entries.specs.declared.Entry.{Entry}
use Rattle.proof_codec.specs.Entries.{AreEntries, AreOldEntries}
use Rattle.core_steps.specs.declared.events.Event.{Event}
use Rattle.core_steps.specs.State.{State}
use Rattle.core_steps.specs.Laws.{IsOrderly}
use Rattle.core_steps.specs.Run.{Exchange, Runs}
use Rattle.project_store.specs.Opening.{StoreMeaning, StandsFor}

-- bytes are those of one list of entries at most, in each version
abbrev pub HasOneSpelling : Type 0
HasOneSpelling =
    (bytes : List ℕ) (es fs : List Entry) →
    (AreEntries es bytes → AreEntries fs bytes → es ≡ fs) × (AreOldEntries es bytes → AreOldEntries fs bytes → es ≡ fs)

-- the sides of a disk stand for one project at most, or for one fault
abbrev pub HasOneProject : Type 0
HasOneProject = (sides : Sides) (a b : StoreMeaning) → StandsFor sides a → StandsFor sides b → a ≡ b

abbrev pub events_in : List Exchange → List Event
events_in exchanges = map (λ x. x.event) exchanges

-- in an orderly state events have one run
abbrev pub HasOneRun : Type 0
HasOneRun =
    (s t u : State) (xs ys : List Exchange) → IsOrderly s → events_in xs ≡ events_in ys → Runs s xs t → Runs s ys u →
    (xs ≡ ys) × (t ≡ u)
