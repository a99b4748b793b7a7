-- The law of a session over lists alone: from what each chair knows to the one history.
use Rattle.std.specs.Prelude.{◌≡◌, ℕ, ◌+◌, ◌<◌, ◌≤◌, List, [], ◌∷◌, ◌++◌, Option, Some, None}
use Rattle.std.specs.List.{AllByRecursion}
use Rattle.sequent_core.specs.declared.Sequent.{Sequent}
use Rattle.sequent_core.specs.declared.Ticket.{Ticket}
use Rattle.sequent_core.specs.declared.Attempt.{Attempt}
use Rattle.core_steps.specs.declared.Durable.{Durable}
use Rattle.core_steps.specs.declared.Event.{Event}
use Rattle.core_steps.specs.declared.Event.TheVariants.{Take, Finish}
use Rattle.core_steps.specs.State.{State, opened}
use Rattle.core_steps.specs.Run.{Exchange, IsLegal}
use Rattle.turn_desk.specs.Log.{NoneFrom}
use Rattle.prover_pool.specs.Shift.{WasServed}
use Rattle.session_words.specs.declared.Line.{Line}
use Rattle.session_words.specs.declared.Line.TheVariants.{One}
use Rattle.store_log.specs.declared.Logged.{Logged}
use Rattle.store_log.specs.declared.StoreBase.{StoreBase}
use Rattle.session_run.specs.Completeness.{IsCompleteWhenIdle}
use Rattle.session_run.specs.FairRun.{Among, FairRun}
use Rattle.store_log.specs.History.{exchanges_of, own}
use Rattle.session_run.specs.Workers.{HaveWorked, HaveFinished}
use Rattle.session_run.specs.Dialogue.{Next, Dialogue, IsPartway}
use Rattle.session_run.specs.Talking.{IsNext}
use Rattle.store_log.specs.StoreLog.{chair_of, store_meaning, IsStoreLog}

-- the events that a user's command is: neither a take nor a finish
abbrev pub IsUsersEvent : Event → Type 0
IsUsersEvent (Take name) = ⊥
IsUsersEvent (Finish number attempt) = ⊥
IsUsersEvent event = Unit {0}

abbrev pub IsUsersLine : Line → Type 0
IsUsersLine (One event) = IsUsersEvent event
IsUsersLine line = Unit {0}

-- a line that was begun after these, if there is one
abbrev pub with_begun : List Line → Option (Line × Next) → List Line
with_begun lines None = lines
with_begun lines (Some begun) = lines ++ begun.0 ∷ []

-- how far a user came: its chair answered these lines by this text, and began to answer this one, if it did
pub record Progress : Type 0 where
  pub lines : List Line
  pub begun : Option (Line × Next)
  pub text : List ℕ

module _ (fair : Sequent → Attempt → Type 0) where
  -- A user's chair answered these lines, and then began to answer one more, if it did, where this comes next.
  abbrev pub Reached : List Line → Option (Line × Next) → List Exchange → List ℕ → Type 0
  Reached lines None ys text = Dialogue fair lines ys text
  Reached lines (Some begun) ys text = IsPartway fair lines begun.0 ys text begun.1

  -- the event is one that comes next in the answer to the line that was begun
  abbrev pub IsNextOf : Option (Line × Next) → Event → Type 0
  IsNextOf None event = ⊥
  IsNextOf (Some begun) event = IsNext fair begun.1 event

  -- The chair came so far in its lines, which are a user's, and where the mark is its own, its event came next.
  pub record CameSoFar (xs : List (ℕ × Exchange)) (mark : Option (ℕ × Event)) (user : ℕ) (p : Progress) : Type 0 where
    pub users : AllByRecursion IsUsersLine (with_begun p.lines p.begun)
    pub reached : Reached p.lines p.begun (own user xs) p.text
    pub own_mark : (event : Event) → mark ≡ Some (user, event) → IsNextOf p.begun event

  -- The last log is that of a store; behind the chairs of the users each worker's chair was served in it, and no other chair
  -- was made; each user came so far.
  pub record Played (base : StoreBase) (log : List Logged) (xs : List (ℕ × Exchange)) (mark : Option (ℕ × Event)) (s : State) (users workers : ℕ) (progress : ℕ → Progress) : Type 0 where
    pub store : IsStoreLog base log xs mark s
    pub served : (k : ℕ) → users ≤ k → k < users + workers → WasServed chair_of store_meaning fair base k [] log
    pub unmade : NoneFrom chair_of (users + workers) log
    pub each : (user : ℕ) → user < users → CameSoFar xs mark user (progress user)

  -- The event at which the store met its first fault, where each user had begun its line so: the next one of a user, a take
  -- of a worker, or the fair finish of a ticket that is out.
  pub data IsFailedEvent (users : ℕ) (begun : ℕ → Option (Line × Next)) (s : State) (event : Event) : Type 0 where
    next_of_user : (user : ℕ) → user < users → IsNextOf (begun user) event → IsFailedEvent users begun s event
    take_of_worker : event ≡ Take None → IsFailedEvent users begun s event
    fair_finish : (t : Ticket) (a : Attempt) → Among t s.out → event ≡ Finish t.number a → fair t.sequent a →
        IsFailedEvent users begun s event

  -- Then the history is legal, each finish in it is one of a ticket that is out, with a fair attempt, the workers did what
  -- workers do, and without a mark each of them took at least once and finished what it took.
  pub record MakesHistory (base : StoreBase) (xs : List (ℕ × Exchange)) (mark : Option (ℕ × Event)) (s : State) (users workers : ℕ) (progress : ℕ → Progress) : Type 0 where
    pub legal : IsLegal (exchanges_of xs)
    pub fair_run : FairRun fair (opened base.durable) (exchanges_of xs) s
    pub worked : HaveWorked fair users workers xs
    pub finished : mark ≡ None → HaveFinished fair users workers xs
    pub failed : (chair : ℕ) (event : Event) → mark ≡ Some (chair, event) →
        IsFailedEvent users (λ user. (progress user).begun) s event

  abbrev pub OneHistory : Type 0
  OneHistory =
      (base : StoreBase) (log : List Logged) (xs : List (ℕ × Exchange)) (mark : Option (ℕ × Event)) (s : State) (users workers : ℕ) (progress : ℕ → Progress)
      → Played base log xs mark s users workers progress → MakesHistory base xs mark s users workers progress

  -- wherever all is idle in a fair run, nothing sure is left unproved, unless memory ran out over it
  abbrev pub CompleteWhenIdle : (Sequent → Type 0) → Type 0
  CompleteWhenIdle sure = (d : Durable) (xs : List Exchange) (t : State) → FairRun fair (opened d) xs t → IsCompleteWhenIdle sure d xs
