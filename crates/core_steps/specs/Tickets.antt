-- A prover's tickets: which obligation is taken, and what comes of its finish.
use Rattle.std.specs.Prelude.{◌≡◌, ◌≢◌, ◌⊎◌, ℕ, ◌+◌, List, [], ◌∷◌, ◌++◌, Option, Some, None}
use Rattle.std.specs.List.{AllByRecursion}
use Rattle.std.specs.FinMap.{FinMap, get, insert}
use Rattle.sequent_core.specs.declared.Sequent.{Sequent}
use Rattle.sequent_core.specs.declared.Obligation.{Obligation}
use Rattle.sequent_core.specs.declared.Tree.{Tree}
use Rattle.sequent_core.specs.declared.Ticket.{Ticket}
use Rattle.sequent_core.specs.declared.Attempt.{Attempt}
use Rattle.sequent_core.specs.declared.Attempt.TheVariants.{Found, NoProof, NoMemory as AttemptNoMemory}
use Rattle.sequent_core.specs.Provers.{IsGoodTree}
use Rattle.proof_entries.specs.declared.Origin.TheVariants.{Prover}
use Rattle.proof_entries.specs.declared.Proof.{Proof}
use Rattle.proof_entries.specs.declared.Entry.TheVariants.{SetProof}
use Rattle.core_steps.specs.Durable.{text_cmp}
use Rattle.core_steps.specs.declared.events.Status.{Status}
use Rattle.core_steps.specs.declared.events.Reply.TheVariants.{Nothing, Taken, NotOpen, NoTicket, Noted, NoMemory, Stored, Refused, Stale}
use Rattle.core_steps.specs.Table.{IsPresent}
use Rattle.core_steps.specs.Status.{IsStatus, IsUnsettledBy}
use Rattle.core_steps.specs.State.{State, entered}
use Rattle.core_steps.specs.Outcomes.{StepOutcome, told, entering, Where}
use Rattle.core_steps.specs.Proving.{OnObligation}

-- TAKE

-- a ticket for this obligation's sequent under its name
abbrev pub IsFor : Obligation → Ticket → Type 0
IsFor o ticket = (ticket.name ≡ o.name) × (ticket.sequent ≡ o.sequent)

-- The obligation is open: it is unattempted or broken, no ticket for it is out, and its sequent isn't the last one
-- tried under its name.
pub record CanTake (proofs : FinMap text_cmp Proof) (out : List Ticket) (tried : FinMap text_cmp Sequent) (o : Obligation) : Type 0 where
  pub unsettled : IsUnsettledBy proofs o
  pub not_out : AllByRecursion (λ ticket. IsFor o ticket → ⊥) out
  pub not_tried : get tried o.name ≢ Some o.sequent

abbrev pub IsOpen : State → Obligation → Type 0
IsOpen s o = CanTake s.durable.proofs s.out s.tried o

abbrev pub ticket_for : ℕ → Obligation → Ticket
ticket_for number o = record { number = number; name = o.name; sequent = o.sequent }

-- a ticket for the obligation goes out
abbrev pub taking : State → Obligation → StepOutcome
taking s o = record {
  reply = Taken (ticket_for s.next o);
  entry = None;
  new = record s { out = s.out ++ ticket_for s.next o ∷ []; next = s.next + 1 };
}

-- the first open obligation is taken, or there is none
abbrev pub TakesFirst : State → List Obligation → StepOutcome → Type 0
TakesFirst s table x =
    (AllByRecursion (λ o. IsOpen s o → ⊥) table × (x ≡ told s Nothing))
    ⊎ ((before : List Obligation) × (o : Obligation) × (behind : List Obligation) × (table ≡ before ++ o ∷ behind)
    × AllByRecursion (λ p. IsOpen s p → ⊥) before × IsOpen s o × (x ≡ taking s o))

-- the obligation is unattempted or broken, and no ticket for it is out
abbrev pub CanTakeNamed : State → Obligation → Type 0
CanTakeNamed s o = IsUnsettledBy s.durable.proofs o × AllByRecursion (λ ticket. IsFor o ticket → ⊥) s.out

-- it is told that the obligation isn't open, with its status
abbrev pub TellsNotOpen : State → List ℕ → Sequent → StepOutcome → Type 0
TellsNotOpen s name sequent x = (status : Status) × IsStatus (get s.durable.proofs name) sequent status × (x ≡ told s (NotOpen name status))

-- the obligation of this name is taken, also where it was tried last
abbrev pub TakesNamed : State → List Obligation → List ℕ → StepOutcome → Type 0
TakesNamed s table name x =
    OnObligation s table name (λ sequent.
    let o : Obligation = record { name = name; sequent = sequent } in
    Where (CanTakeNamed s o) (x ≡ taking s o) (TellsNotOpen s name sequent x)) x

-- nothing is open, and no ticket is out
abbrev pub IsIdle : State → List Obligation → Type 0
IsIdle s table = AllByRecursion (λ o. IsOpen s o → ⊥) table × (s.out ≡ [])

-- FINISH

-- the status of this name for its present sequent, where the table has the name
abbrev pub IsPresentStatus : FinMap text_cmp Proof → List ℕ → Option Sequent → Option Status → Type 0
IsPresentStatus proofs name None shown = shown ≡ None
IsPresentStatus proofs name (Some sequent) shown = (status : Status) × (shown ≡ Some status) × IsStatus (get proofs name) sequent status

-- the tree is good for the present sequent, whose status is unattempted or broken
abbrev pub CanStore : FinMap text_cmp Proof → List ℕ → Option Sequent → Tree → Type 0
CanStore proofs name None tree = ⊥
CanStore proofs name (Some sequent) tree = IsUnsettledBy proofs (record { name = name; sequent = sequent }) × IsGoodTree tree sequent

-- the ticket's sequent is the last one tried under its name
abbrev pub tried_with : State → Ticket → State
tried_with s ticket = record s { tried = insert s.tried ticket.name ticket.sequent }

abbrev pub by_prover : Tree → Proof
by_prover tree = record { tree = tree; origin = Prover }

-- What comes of a tree that was found: it is stored where it is good for the present sequent, whose status is
-- unattempted or broken; else it is stale where it is good for the ticket's own sequent, and refused where it isn't.
pub data EndsFound (s : State) (ticket : Ticket) (sequent : Option Sequent) (tree : Tree) (status : Option Status) (x : StepOutcome) : Type 0 where
  stored : CanStore s.durable.proofs ticket.name sequent tree → x ≡ entering s (Stored ticket.name status) (SetProof ticket.name (by_prover tree)) →
      EndsFound s ticket sequent tree status x
  stale : (CanStore s.durable.proofs ticket.name sequent tree → ⊥) → IsGoodTree tree ticket.sequent → x ≡ told s (Stale ticket.name status) →
      EndsFound s ticket sequent tree status x
  refused : (CanStore s.durable.proofs ticket.name sequent tree → ⊥) → (IsGoodTree tree ticket.sequent → ⊥) →
      x ≡ told (tried_with s ticket) (Refused ticket.name status) → EndsFound s ticket sequent tree status x

-- What comes of a ticket that was taken in, by the attempt: a good proof is stored, and a sequent for which none came
-- is tried.
abbrev pub EndsTicket : State → Ticket → Option Sequent → Attempt → StepOutcome → Type 0
EndsTicket s ticket sequent NoProof x =
    (status : Option Status) × IsPresentStatus s.durable.proofs ticket.name sequent status
    × (x ≡ told (tried_with s ticket) (Noted ticket.name status))
EndsTicket s ticket sequent AttemptNoMemory x =
    (status : Option Status) × IsPresentStatus s.durable.proofs ticket.name sequent status
    × (x ≡ told (tried_with s ticket) (NoMemory ticket.name status))
EndsTicket s ticket sequent (Found tree) x =
    (status : Option Status) × IsPresentStatus x.new.durable.proofs ticket.name sequent status × EndsFound s ticket sequent tree status x

-- a finish takes the ticket of this number in, if it is out
abbrev pub Finishes : State → List Obligation → ℕ → Attempt → StepOutcome → Type 0
Finishes s table number attempt x =
    (AllByRecursion (λ ticket. ticket.number ≢ number) s.out × (x ≡ told s (NoTicket number)))
    ⊎ ((before : List Ticket) × (ticket : Ticket) × (behind : List Ticket) × (s.out ≡ before ++ ticket ∷ behind) × (ticket.number ≡ number)
    × ((sequent : Option Sequent) × IsPresent table ticket.name sequent × EndsTicket (record s { out = before ++ behind }) ticket sequent attempt x))
