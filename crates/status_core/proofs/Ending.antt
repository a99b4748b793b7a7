-- What comes of a finish, by the result of what was prepared.
use Rattle.std.proofs.Common.{◌≡◌, ◌∙◌, refl, sym, subst, ℕ, List, get_or}
use Rattle.std.specs.Prelude.{Option, Some, Bool, true, false, IsTrue, ◌↔◌, Result, IfOk}
use Rattle.std.specs.Option.{option_map}
use Rattle.sequent_core.specs.declared.Sequent.{Sequent}
use Rattle.sequent_core.specs.declared.Obligation.{Obligation}
use Rattle.sequent_core.specs.declared.Tree.{Tree}
use Rattle.sequent_core.specs.declared.Ticket.{Ticket}
use Rattle.sequent_core.specs.declared.Attempt.{Attempt}
use Rattle.sequent_core.specs.declared.Attempt.TheVariants.{Found, NoProof, NoMemory as AttemptNoMemory}
use Rattle.sequent_core.specs.Provers.{IsGoodTree}
use Rattle.proof_entries.specs.declared.Entry.TheVariants.{SetProof}
use Rattle.core_steps.specs.declared.events.Event.TheVariants.{Finish}
use Rattle.core_steps.specs.declared.events.Reply.TheVariants.{Noted, NoMemory, Stored, Stale, Refused}
use Rattle.core_steps.specs.declared.events.Status.{Status}
use Rattle.core_steps.specs.declared.events.Status.TheVariants.{Discharged}
use Rattle.core_steps.specs.State.{State}
use Rattle.core_steps.specs.Outcomes.{StepOutcome, told, entering}
use Rattle.core_steps.specs.Tickets.{IsPresentStatus, CanStore, EndsTicket, tried_with, by_prover}
use Rattle.prepared_events.specs.Prepared.{Ready}
use Rattle.table_lookup.specs.Tickets.{IsTicketAt}
use Rattle.status_core.specs.PrivateParts.{FindsObligation, without_at, ComesAs, Prepares}
use Rattle.status_core.proofs.Made.{if_ok, as_made}
use Rattle.status_core.proofs.Finished.{ends_stored, ends_stale, ends_refused, finish_found}

-- what a test that failed says isn't so
pub isnt : {P : Type 0} (test : Bool) → test ≡ false → (IsTrue test ↔ P) → P → ⊥
isnt test failed is p = let no : false ≡ true = sym failed ∙ is.1 p in cc

-- a result of which an outcome comes, of which another thing comes
pub result_as : {E : Type 0} (s : State) (X : StepOutcome → Type 0) (z : StepOutcome) (r : Result Ready E) → X z → IfOk r (λ p. ComesAs s (λ x. x ≡ z) p) → IfOk r (λ p. ComesAs s X p)
result_as s X z r x made = if_ok (λ p. ComesAs s (λ y. y ≡ z) p) (λ p. ComesAs s X p) r (λ p m. as_made s X p z m x) made

-- what comes of a ticket that was taken in, under the ticket's name
module _ (s : State) (ticket : Ticket) (sequent : Option Sequent) (status : Option Status) (tree : Tree) (name : List ℕ) (named : name ≡ ticket.name) where
  pub stored_named : CanStore s.durable.proofs name sequent tree →
      EndsTicket s ticket sequent (Found tree) (entering s (Stored name (Some Discharged)) (SetProof name (by_prover tree)))
  stored_named =
      subst (λ (n : List ℕ). CanStore s.durable.proofs n sequent tree → EndsTicket s ticket sequent (Found tree) (entering s (Stored n (Some Discharged)) (SetProof n (by_prover tree))))
      (sym named) (λ can. ends_stored s ticket sequent status tree can)

  pub stale_named : IsPresentStatus s.durable.proofs name sequent status → (CanStore s.durable.proofs name sequent tree → ⊥) → IsGoodTree tree ticket.sequent →
      EndsTicket s ticket sequent (Found tree) (told s (Stale name status))
  stale_named =
      subst (λ (n : List ℕ). IsPresentStatus s.durable.proofs n sequent status → (CanStore s.durable.proofs n sequent tree → ⊥) → IsGoodTree tree ticket.sequent →
      EndsTicket s ticket sequent (Found tree) (told s (Stale n status)))
      (sym named) (λ shown cannot good. ends_stale s ticket sequent status tree shown cannot good)

  pub refused_named : IsPresentStatus s.durable.proofs name sequent status → (CanStore s.durable.proofs name sequent tree → ⊥) → (IsGoodTree tree ticket.sequent → ⊥) →
      EndsTicket s ticket sequent (Found tree) (told (tried_with s ticket) (Refused name status))
  refused_named =
      subst (λ (n : List ℕ). IsPresentStatus s.durable.proofs n sequent status → (CanStore s.durable.proofs n sequent tree → ⊥) → (IsGoodTree tree ticket.sequent → ⊥) →
      EndsTicket s ticket sequent (Found tree) (told (tried_with s ticket) (Refused n status)))
      (sym named) (λ shown cannot bad. ends_refused s ticket sequent status tree shown cannot bad)

-- a finish without a proof, under the ticket's name
module _ (s : State) (ticket : Ticket) (sequent : Option Sequent) (status : Option Status) (name : List ℕ) (named : name ≡ ticket.name)
    (shown : IsPresentStatus s.durable.proofs ticket.name sequent status) where
  pub noted_named : EndsTicket s ticket sequent NoProof (told (tried_with s ticket) (Noted name status))
  noted_named = subst (λ (n : List ℕ). EndsTicket s ticket sequent NoProof (told (tried_with s ticket) (Noted n status))) (sym named) (status, shown, refl)

  pub no_memory_named : EndsTicket s ticket sequent AttemptNoMemory (told (tried_with s ticket) (NoMemory name status))
  no_memory_named = subst (λ (n : List ℕ). EndsTicket s ticket sequent AttemptNoMemory (told (tried_with s ticket) (NoMemory n status))) (sym named) (status, shown, refl)

-- the finish of the ticket at the place of its number, by the result
pub finish_result : {E : Type 0} (s : State) (number at : ℕ) (ticket : Ticket) (found : Option Obligation) (attempt : Attempt) (r : Result Ready E) →
    FindsObligation s.durable.built ticket.name found → IsTicketAt s.out number (Some at) → ticket ≡ get_or s.out at ticket →
    IfOk r (λ p. ComesAs s (EndsTicket (without_at s at) ticket (option_map (λ o. o.sequent) found) attempt) p) → IfOk r (λ p. Prepares s (Finish number attempt) p)
finish_result s number at ticket found attempt r f out there made =
    if_ok (λ p. ComesAs s (EndsTicket (without_at s at) ticket (option_map (λ o. o.sequent) found) attempt) p) (λ p. Prepares s (Finish number attempt) p) r
    (λ p c. finish_found s number at ticket found attempt p f out there c) made
