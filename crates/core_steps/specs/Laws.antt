-- Laws on the step: each event is answered in one way, in every state that a run reaches.
use Rattle.std.specs.Prelude.{◌≡◌, ◌≢◌, ◌⊎◌, ⊤, ◌<◌, ◌≤◌, ◌+◌, ℕ, List, [], ◌∷◌, ◌++◌, Option, Some, None}
use Rattle.std.specs.List.{AllByRecursion}
use Rattle.std.specs.FinMap.{get, len}
use Rattle.sequent_core.specs.declared.Obligation.{Obligation}
use Rattle.sequent_core.specs.declared.Sequent.{Sequent}
use Rattle.sequent_core.specs.declared.Ticket.{Ticket}
use Rattle.sequent_core.specs.declared.Tree.{Tree}
use Rattle.sequent_core.specs.declared.Attempt.TheVariants.{Found}
use Rattle.sequent_core.specs.Provers.{IsGoodTree}
use Rattle.sequent_core.specs.Trees.{Derives}
use Rattle.proof_entries.specs.declared.Entry.{Entry}
use Rattle.proof_entries.specs.declared.Entry.TheVariants.{Put}
use Rattle.proof_entries.specs.declared.Proof.{Proof}
use Rattle.readings_core.specs.declared.Follows.{Follows}
use Rattle.readings_core.specs.Follows.{IsFollowsAnswer}
use Rattle.core_steps.specs.declared.durable.Durable.{Durable}
use Rattle.core_steps.specs.declared.events.Status.{Status}
use Rattle.core_steps.specs.declared.events.Status.TheVariants.{Discharged}
use Rattle.core_steps.specs.declared.events.Event.{Event}
use Rattle.core_steps.specs.declared.events.Event.TheVariants.{Build, Finish}
use Rattle.core_steps.specs.declared.events.Reply.{Reply}
use Rattle.core_steps.specs.declared.events.Reply.TheVariants.{Now, NotOpen, Noted, NoMemory, Stored, Refused, Stale, Statuses, Shown, Followed}
use Rattle.core_steps.specs.Status.{IsRebuilt, IsStatus}
use Rattle.core_steps.specs.Table.{IsTable, IsPresent}
use Rattle.core_steps.specs.State.{State, opened, entered, entered_if}
use Rattle.core_steps.specs.Outcomes.{StepOutcome}
use Rattle.core_steps.specs.Proving.{stored_tree}
use Rattle.core_steps.specs.Tickets.{CanStore, by_prover}
use Rattle.core_steps.specs.Step.{Comes, Does}

-- no two tickets have one number
abbrev pub AreApart : List Ticket → Type 0
AreApart [] = ⊤
AreApart (ticket ∷ tickets) = AllByRecursion (λ t. t.number ≢ ticket.number) tickets × AreApart tickets

-- the numbers of the tickets out differ, and are below the next one
pub record IsOrderly (s : State) : Type 0 where
  pub apart : AreApart s.out
  pub below : AllByRecursion (λ t. t.number < s.next) s.out

-- two answers to one event are the same
abbrev pub HasOneAnswer : Type 0
HasOneAnswer =
    (s : State) (event : Event) (r q : Reply) (n m : Option Entry) (t u : State) → IsOrderly s →
    Does s event r n t → Does s event q m u → (r ≡ q) × (n ≡ m) × (t ≡ u)

-- an opened state is orderly
abbrev pub OpensOrderly : Type 0
OpensOrderly = (d : Durable) → IsOrderly (opened d)

-- each step keeps an orderly state so
abbrev pub StaysOrderly : Type 0
StaysOrderly = (s : State) (event : Event) (r : Reply) (n : Option Entry) (t : State) → IsOrderly s → Does s event r n t → IsOrderly t

-- what a step makes of the durable is what its entry makes of it
abbrev pub EntersAll : Type 0
EntersAll = (s : State) (event : Event) (r : Reply) (n : Option Entry) (t : State) → Does s event r n t → t.durable ≡ entered_if s.durable n

-- a step gives at most one ticket, and stores at most one proof
abbrev pub GrowsSlowly : Type 0
GrowsSlowly =
    (s : State) (event : Event) (r : Reply) (n : Option Entry) (t : State) → Does s event r n t →
    (t.next ≤ s.next + 1) × (len t.durable.proofs ≤ len s.durable.proofs + 1)

-- the clean rebuild has the name with this status
abbrev pub IsRebuiltAs : Durable → List ℕ → Status → Type 0
IsRebuiltAs d name status =
    (table : List Obligation) × (sequent : Sequent) × IsTable d.built table × IsPresent table name (Some sequent) × IsStatus (get d.proofs name) sequent status

abbrev pub IsRebuiltIf : Durable → List ℕ → Option Status → Type 0
IsRebuiltIf d name None = (table : List Obligation) × IsTable d.built table × IsPresent table name None
IsRebuiltIf d name (Some status) = IsRebuiltAs d name status

-- the clean rebuild has the name, and this is said of the tree that is stored under it
abbrev pub IsRebuiltSaying : Durable → List ℕ → Follows → Type 0
IsRebuiltSaying d name answer =
    (table : List Obligation) × (sequent : Sequent) × IsTable d.built table × IsPresent table name (Some sequent)
    × IsFollowsAnswer (stored_tree d.proofs name) sequent answer

-- the statuses in a reply, and what it says of a tree, are those of the clean rebuild
abbrev pub TellsRebuilt : Durable → Reply → Type 0
TellsRebuilt d (Now name status) = IsRebuiltAs d name status
TellsRebuilt d (NotOpen name status) = IsRebuiltAs d name status
TellsRebuilt d (Noted name status) = IsRebuiltIf d name status
TellsRebuilt d (NoMemory name status) = IsRebuiltIf d name status
TellsRebuilt d (Stored name status) = IsRebuiltIf d name status
TellsRebuilt d (Refused name status) = IsRebuiltIf d name status
TellsRebuilt d (Stale name status) = IsRebuiltIf d name status
TellsRebuilt d (Statuses shown) = IsRebuilt d shown
TellsRebuilt d (Shown name status sequent) = IsRebuiltAs d name status
TellsRebuilt d (Followed name answer) = IsRebuiltSaying d name answer
TellsRebuilt d reply = ⊤

-- each status in a reply is that of the clean rebuild of the new durable
abbrev pub TellsTheRebuilt : Type 0
TellsTheRebuilt = (s : State) (event : Event) (r : Reply) (n : Option Entry) (t : State) → Does s event r n t → TellsRebuilt t.durable r

-- an obligation that the clean rebuild shows discharged has a stored proof that derives its present sequent
abbrev pub DischargedIsDerived : Type 0
DischargedIsDerived =
    (d : Durable) (name : List ℕ) → IsRebuiltAs d name Discharged →
    (table : List Obligation) × (sequent : Sequent) × (proof : Proof) × IsTable d.built table × IsPresent table name (Some sequent)
    × (get d.proofs name ≡ Some proof) × Derives proof.tree sequent

-- a second build changes nothing
abbrev pub BuildsOnce : Type 0
BuildsOnce = (s t u : State) (r q : Reply) (n m : Option Entry) → Does s Build r n t → Does t Build q m u → u ≡ t

-- an edit of a component back to its text restores the durable, and so every status
abbrev pub EditsBack : Type 0
EditsBack =
    (d : Durable) (name old text : List ℕ) → get d.texts name ≡ Some old →
    entered (entered d (Put name text)) (Put name old) ≡ d

-- two sequents are the same, or not
abbrev pub DecidesSequents : Type 0
DecidesSequents = (p q : Sequent) → (p ≡ q) ⊎ (p ≢ q)

-- The proof is stored where it is good for the present sequent, whose status is unattempted or broken, and else it is
-- stale.
abbrev pub IsStoredOrStale : State → Ticket → Option Sequent → Tree → StepOutcome → Type 0
IsStoredOrStale s ticket sequent tree x =
    (CanStore s.durable.proofs ticket.name sequent tree →
    (x.reply ≡ Stored ticket.name (Some Discharged)) × (get x.new.durable.proofs ticket.name ≡ Some (by_prover tree)))
    × ((CanStore s.durable.proofs ticket.name sequent tree → ⊥) →
    (status : Option Status) × (x.reply ≡ Stale ticket.name status) × (x.new.durable ≡ s.durable))

-- what comes of the finish of a ticket that is out, with a proof that is good for the ticket's own sequent
abbrev pub StoresLate : Type 0
StoresLate =
    (s : State) (before : List Ticket) (ticket : Ticket) (behind : List Ticket) (tree : Tree) (x : StepOutcome) →
    IsOrderly s → s.out ≡ before ++ ticket ∷ behind → IsGoodTree tree ticket.sequent → Comes s (Finish ticket.number (Found tree)) x →
    (table : List Obligation) (sequent : Option Sequent) → IsTable s.durable.built table → IsPresent table ticket.name sequent →
    IsStoredOrStale s ticket sequent tree x
