-- Runs in which each finish is one of a ticket that is out, with a fair attempt at its sequent.
use Rattle.std.specs.Prelude.{◌≡◌, ◌⊎◌, ℕ, List, [], ◌∷◌}
use Rattle.sequent_core.specs.declared.Sequent.{Sequent}
use Rattle.sequent_core.specs.declared.Ticket.{Ticket}
use Rattle.sequent_core.specs.declared.Attempt.{Attempt}
use Rattle.core_steps.specs.declared.Event.TheVariants.{Finish}
use Rattle.core_steps.specs.State.{State}
use Rattle.core_steps.specs.Run.{Exchange, IsStepOf}

-- the ticket is one of these
abbrev pub Among : Ticket → List Ticket → Type 0
Among t [] = ⊥
Among t (k ∷ ks) = (t ≡ k) ⊎ Among t ks

module _ (fair : Sequent → Attempt → Type 0) where
  abbrev pub IsFairFinish : State → Exchange → Type 0
  IsFairFinish s x = (number : ℕ) (a : Attempt) → x.event ≡ Finish number a → (t : Ticket) × Among t s.out × (t.number ≡ number) × fair t.sequent a

  abbrev pub FairRun : State → List Exchange → State → Type 0
  FairRun old [] new = new ≡ old
  FairRun old (x ∷ xs) new = (mid : State) × IsStepOf old x mid × IsFairFinish old x × FairRun mid xs new
