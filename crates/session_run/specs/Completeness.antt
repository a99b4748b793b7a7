-- What is left unproved when the session is idle.
use Rattle.std.specs.Prelude.{◌≡◌, ◌⊎◌, List, ◌∷◌, ◌++◌, true}
use Rattle.std.specs.List.{AllByRecursion}
use Rattle.sequent_core.specs.declared.Sequent.{Sequent}
use Rattle.sequent_core.specs.declared.Obligation.{Obligation}
use Rattle.sequent_core.specs.declared.Ticket.{Ticket}
use Rattle.sequent_core.specs.declared.Attempt.TheVariants.{NoMemory}
use Rattle.core_steps.specs.declared.Durable.{Durable}
use Rattle.core_steps.specs.declared.Event.TheVariants.{Finish, Ask}
use Rattle.core_steps.specs.declared.Question.TheVariants.{Idle as AskIdle}
use Rattle.core_steps.specs.declared.Reply.TheVariants.{Taken, Idle}
use Rattle.core_steps.specs.Status.{IsUnsettledBy}
use Rattle.core_steps.specs.Table.{IsTable}
use Rattle.core_steps.specs.Tickets.{IsFor}
use Rattle.core_steps.specs.State.{State, opened}
use Rattle.core_steps.specs.Run.{Exchange, Runs}

-- Memory ran out over the obligation: its sequent was taken under its name, and this ticket was finished later so.
pub record RanOutOver (o : Obligation) (xs : List Exchange) : Type 0 where
  pub before : List Exchange
  pub taking : Exchange
  pub between : List Exchange
  pub finishing : Exchange
  pub behind : List Exchange
  pub in_order : xs ≡ before ++ taking ∷ (between ++ finishing ∷ behind)
  pub ticket : Ticket
  pub takes : taking.reply ≡ Taken ticket
  pub is_for : IsFor o ticket
  pub finishes : finishing.event ≡ Finish ticket.number NoMemory

-- each obligation of the built texts that is left unattempted or broken isn't sure for the prover, or memory ran out over it
abbrev pub LeavesNothingSure : (Sequent → Type 0) → Durable → List Exchange → Type 0
LeavesNothingSure sure d xs =
    (table : List Obligation) × IsTable d.built table
    × AllByRecursion (λ o. IsUnsettledBy d.proofs o → (sure o.sequent → ⊥) ⊎ RanOutOver o xs) table

-- it is so at each place of a history where the answer was that all is idle
abbrev pub IsCompleteWhenIdle : (Sequent → Type 0) → Durable → List Exchange → Type 0
IsCompleteWhenIdle sure d xs =
    (before : List Exchange) (x : Exchange) (behind : List Exchange) (s : State) → xs ≡ before ++ x ∷ behind → Runs (opened d) before s
    → x.event ≡ Ask AskIdle → x.reply ≡ Idle true → LeavesNothingSure sure s.durable before
