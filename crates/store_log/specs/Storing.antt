-- What an act on the store does to its log.
use Rattle.std.specs.Prelude.{◌≡◌, ◌⊎◌, ℕ, true, List, [], ◌∷◌, ◌++◌, Result, Ok, Err}
use Rattle.core_steps.specs.declared.events.Event.{Event}
use Rattle.core_steps.specs.declared.events.Reply.{Reply}
use Rattle.prover_pool.specs.Work.{EndsMarked}
use Rattle.store_log.specs.declared.logged.Logged.{Logged}
use Rattle.store_log.specs.declared.logged.StoreBase.{StoreBase}
use Rattle.store_log.specs.declared.fault.StoreFault.{StoreFault}
use Rattle.store_log.specs.StoreLog.{PerformsInLog, store_meaning}

-- the mark of the act that met the first fault
abbrev pub failure_mark : ℕ → Event → Logged
failure_mark chair event = record { chair = chair; event = event; failed = true }

-- A store that keeps a fault did not do the event: its mark stands at the end, and was added where it was the first.
abbrev pub RefusesEvent : ℕ → Event → List Logged → List Logged → Type 0
RefusesEvent chair event before after = ((after ≡ before) ⊎ (after ≡ before ++ failure_mark chair event ∷ [])) × EndsMarked store_meaning after

-- the event is done with this reply, or it is refused by a fault that is kept
abbrev pub Handles : StoreBase → ℕ → Event → List Logged → Result Reply StoreFault → List Logged → Type 0
Handles base chair event before (Ok reply) after = PerformsInLog base chair event reply before after
Handles base chair event before (Err fault) after = RefusesEvent chair event before after
