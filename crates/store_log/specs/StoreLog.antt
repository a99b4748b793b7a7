-- The log of a store, and what its entries mean to workers.
use Rattle.std.specs.Prelude.{◌≡◌, ℕ, true, false, List, [], ◌∷◌, ◌++◌, map, Option, Some, None}
use Rattle.proof_entries.specs.declared.Entry.{Entry}
use Rattle.core_steps.specs.declared.events.Event.{Event}
use Rattle.core_steps.specs.declared.events.Event.TheVariants.{Take, Finish}
use Rattle.core_steps.specs.declared.events.Reply.{Reply}
use Rattle.core_steps.specs.State.{State, opened}
use Rattle.core_steps.specs.Step.{Does, Replies, take_reply}
use Rattle.core_steps.specs.Run.{Exchange, Runs}
use Rattle.prover_pool.specs.Work.{Meaning}
use Rattle.store_log.specs.History.{exchanges_of}
use Rattle.store_log.specs.declared.logged.Logged.{Logged}
use Rattle.store_log.specs.declared.logged.StoreBase.{StoreBase}

abbrev pub chair_of : Logged → ℕ
chair_of e = e.chair

-- an event that the store did
abbrev pub done : ℕ × Exchange → Logged
done x = record { chair = x.0; event = x.1.event; failed = false }

-- The log of a store that keeps no fault: from its base these exchanges lead to this state.
pub record IsLogOf (base : StoreBase) (log : List Logged) (xs : List (ℕ × Exchange)) (s : State) : Type 0 where
  pub entries : log ≡ map done xs
  pub run : Runs (opened base.durable) (exchanges_of xs) s

-- where the log was so, the store answered the event by this reply
abbrev pub AnswersAt : StoreBase → List Logged → Event → Reply → Type 0
AnswersAt base log event reply =
    (xs : List (ℕ × Exchange)) × (s : State) × (new : State) × IsLogOf base log xs s × Replies s event reply new

-- what the entries mean to workers
abbrev pub store_meaning : Meaning Logged StoreBase
store_meaning = record {
  is_mark = λ e. e.failed;
  is_take = λ base before e ticket. (e.failed ≡ false) × (e.event ≡ Take None) × AnswersAt base before (Take None) (take_reply ticket);
  is_finish = λ base before e number attempt. (e.failed ≡ false) × (e.event ≡ Finish number attempt);
  is_failed_take = λ base before e. e.event ≡ Take None;
  is_failed_finish = λ base before e number attempt. e.event ≡ Finish number attempt;
}

-- the mark of the act that met the first fault
abbrev pub marks : Option (ℕ × Event) → List Logged
marks None = []
marks (Some act) = record { chair = act.0; event = act.1; failed = true } ∷ []

-- The log of a store: what it did, and after it the mark of the act that met its first fault, if one did.
pub record IsStoreLog (base : StoreBase) (log : List Logged) (xs : List (ℕ × Exchange)) (mark : Option (ℕ × Event)) (s : State) : Type 0 where
  pub entries : log ≡ map done xs ++ marks mark
  pub run : Runs (opened base.durable) (exchanges_of xs) s

-- What an act of a chair does that the store answers: its event is the next exchange.
pub record PerformsInLog (base : StoreBase) (chair : ℕ) (event : Event) (reply : Reply) (found left : List Logged) : Type 0 where
  pub xs : List (ℕ × Exchange)
  pub before : State
  pub now : State
  pub entry : Option Entry
  pub log : IsLogOf base found xs before
  pub step : Does before event reply entry now
  pub adds : left ≡ found ++ record { chair = chair; event = event; failed = false } ∷ []
