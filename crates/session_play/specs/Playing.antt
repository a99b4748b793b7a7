-- What a play leaves: a store, worked on by chair 0 for the user and by the workers, each at a chair of its own.
use Rattle.std.specs.Prelude.{ℕ, ◌+◌, ◌<◌, List, []}
use Rattle.sequent_core.specs.declared.Sequent.{Sequent}
use Rattle.sequent_core.specs.declared.Attempt.{Attempt}
use Rattle.turn_desk.specs.Log.{HasSeen, NoneFrom}
use Rattle.prover_pool.specs.Work.{Meaning}
use Rattle.prover_pool.specs.Shift.{WasServed}
use Rattle.store_log.specs.declared.logged.Logged.{Logged}
use Rattle.store_log.specs.declared.logged.StoreBase.{StoreBase}
use Rattle.session_streams.specs.Streams.{SourceState, Writing}
use Rattle.session_talk.specs.declared.conversing.Ending.{Ending}
use Rattle.session_talk.specs.Conversing.{Converses}

module _ (chair_of : Logged → ℕ) (means : Meaning Logged StoreBase) (fair : Sequent → Attempt → Type 0) where
  -- Each worker's chair was served in the last log, no other chair was made, and chair 0, whose commands ended so, had
  -- seen a beginning of that log with all its own acts.
  pub record IsPlayed
      (workers : ℕ) (base : StoreBase) (log : List Logged) (source : SourceState) (sink : Writing) (ending : Ending) :
      Type 0 where
    pub served : (k : ℕ) → 0 < k → k < workers + 1 → WasServed chair_of means fair base k [] log
    pub unmade : NoneFrom chair_of (workers + 1) log
    pub seen : List Logged
    pub has_seen : HasSeen chair_of 0 seen log
    pub converses : Converses fair base 0 source sink seen ending
