-- What comes of the finish of a ticket that is out.
use Rattle.std.proofs.Common.{◌≡◌, ◌∙◌, refl, sym, ap, subst, inr, ℕ, ◌+◌, ◌<◌, List, take, drop, get_or, length}
use Rattle.std.specs.Prelude.{Option, Some, None, false, slice_get}
use Rattle.std.specs.Option.{option_map}
use Rattle.std.specs.FinMap.{insert, len, contains_key}
use Rattle.std.proofs.lemmas.Option.{slice_get-get_or}
use Rattle.sequent_core.specs.declared.Sequent.{Sequent}
use Rattle.sequent_core.specs.declared.Obligation.{Obligation}
use Rattle.sequent_core.specs.declared.Tree.{Tree}
use Rattle.sequent_core.specs.declared.Ticket.{Ticket}
use Rattle.sequent_core.specs.declared.Attempt.{Attempt}
use Rattle.sequent_core.specs.declared.Attempt.TheVariants.{Found}
use Rattle.sequent_core.specs.Provers.{IsGoodTree}
use Rattle.core_steps.specs.declared.events.Event.TheVariants.{Finish}
use Rattle.core_steps.specs.Durable.{IsSmallProject}
use Rattle.core_steps.specs.declared.events.Reply.{Reply}
use Rattle.core_steps.specs.declared.events.Reply.TheVariants.{Stored, Stale, Refused}
use Rattle.core_steps.specs.declared.events.Status.{Status}
use Rattle.core_steps.specs.declared.events.Status.TheVariants.{Discharged}
use Rattle.proof_entries.specs.declared.Entry.TheVariants.{SetProof}
use Rattle.core_steps.specs.State.{State}
use Rattle.core_steps.specs.Status.{IsStatus}
use Rattle.core_steps.specs.Table.{IsTable, IsPresent}
use Rattle.core_steps.specs.Outcomes.{told, entering}
use Rattle.core_steps.specs.Tickets.{IsPresentStatus, CanStore, stored, stale, refused, EndsTicket, tried_with, by_prover}
use Rattle.core_steps.proofs.Lists.{split}
use Rattle.core_steps.proofs.NameMaps.{get_same}
use Rattle.prepared_events.specs.Prepared.{Ready, tried_of}
use Rattle.table_lookup.specs.Tickets.{IsTicketAt}
use Rattle.status_core.specs.PrivateParts.{FindsObligation, without_at, ComesAs, Prepares, made}
use Rattle.prepared_events.specs.Making.{trying}
use Rattle.status_core.proofs.Made.{so_made, made_as}
use Rattle.status_core.proofs.Readied.{ready_trying}

-- the status after a good proof is stored
stored_status : (s : State) (name : List ℕ) (sequent : Option Sequent) (tree : Tree) → CanStore s.durable.proofs name sequent tree →
    IsPresentStatus (insert s.durable.proofs name (by_prover tree)) name sequent (Some Discharged)
stored_status s name None tree can = absurd can
stored_status s name (Some sequent) tree can =
    (Discharged, refl, subst (λ o. IsStatus o sequent Discharged) (sym (get_same s.durable.proofs name (by_prover tree))) can.1.derives)

-- what comes of a ticket that was taken in, with a tree that was found
module _ (s : State) (ticket : Ticket) (sequent : Option Sequent) (status : Option Status) (tree : Tree) where
  pub ends_stored : CanStore s.durable.proofs ticket.name sequent tree →
      EndsTicket s ticket sequent (Found tree) (entering s (Stored ticket.name (Some Discharged)) (SetProof ticket.name (by_prover tree)))
  ends_stored can = (Some Discharged, stored_status s ticket.name sequent tree can, stored can refl)

  pub ends_stale : IsPresentStatus s.durable.proofs ticket.name sequent status → (CanStore s.durable.proofs ticket.name sequent tree → ⊥) → IsGoodTree tree ticket.sequent →
      EndsTicket s ticket sequent (Found tree) (told s (Stale ticket.name status))
  ends_stale shown cannot good = (status, shown, stale cannot good refl)

  pub ends_refused : IsPresentStatus s.durable.proofs ticket.name sequent status → (CanStore s.durable.proofs ticket.name sequent tree → ⊥) → (IsGoodTree tree ticket.sequent → ⊥) →
      EndsTicket s ticket sequent (Found tree) (told (tried_with s ticket) (Refused ticket.name status))
  ends_refused shown cannot bad = (status, shown, refused cannot bad refl)

-- the finish of the ticket at the place of its number
pub finishes : (s : State) (number at : ℕ) (ticket : Ticket) (sequent : Option Sequent) (attempt : Attempt) (p : Ready) (table : List Obligation) →
    IsTable s.durable.built table → IsPresent table ticket.name sequent → IsTicketAt s.out number (Some at) → ticket ≡ get_or s.out at ticket →
    ComesAs s (EndsTicket (without_at s at) ticket sequent attempt) p → Prepares s (Finish number attempt) p
finishes s number at ticket sequent attempt p table is present out there c = record {
  comes = (
    table,
    is,
    inr (take at s.out, ticket, drop (at + 1) s.out, split s.out at ticket out.0 there, (ap (λ t. t.number) there ∙ out.2 ticket), (sequent, present, c.comes)),
  );
  ready = c.ready;
}

-- the finish of the ticket at the place of its number, where this was found of its name
pub finish_found : (s : State) (number at : ℕ) (ticket : Ticket) (found : Option Obligation) (attempt : Attempt) (p : Ready) → FindsObligation s.durable.built ticket.name found →
    IsTicketAt s.out number (Some at) → ticket ≡ get_or s.out at ticket → ComesAs s (EndsTicket (without_at s at) ticket (option_map (λ o. o.sequent) found) attempt) p →
    Prepares s (Finish number attempt) p
finish_found s number at ticket None attempt p f out there c = finishes s number at ticket None attempt p f.0 f.1 f.2 out there c
finish_found s number at ticket (Some o) attempt p f out there c = finishes s number at ticket (Some o.sequent) attempt p f.0 f.1 f.2 out there c

-- the ticket at a place
pub ticket_there : (out : List Ticket) (at : ℕ) (ticket : Ticket) → at < length out → slice_get out at ≡ Some ticket → ticket ≡ get_or out at ticket
ticket_there out at ticket lt is = let same : Some ticket ≡ Some (get_or out at ticket) = sym is ∙ slice_get-get_or out at ticket lt in cc

-- the element at a place is the ticket there
pub same_ticket : (out : List Ticket) (at : ℕ) (k ticket : Ticket) → at < length out → k ≡ get_or out at k → slice_get out at ≡ Some ticket → k ≡ ticket
same_ticket out at k ticket lt is there = let same : Some k ≡ Some ticket = ap Some is ∙ sym (slice_get-get_or out at k lt) ∙ there in cc

-- the ticket at the place comes in, and its sequent is the last tried one of its name
pub comes_trying : (s : State) (p : Ready) (small : IsSmallProject s.durable.texts) (reply : Reply) (at room : ℕ) (ticket : Ticket) → p ≡ trying reply at room →
    at < length s.out → slice_get s.out at ≡ Some ticket → (contains_key s.tried ticket.name ≡ false → len s.tried < room) →
    ComesAs s (λ x. x ≡ told (tried_with (without_at s at) ticket) reply) p
comes_trying s p small reply at room ticket is lt there fits =
    so_made s (λ x. x ≡ made (trying reply at room) s) (λ x. x ≡ told (tried_with (without_at s at) ticket) reply) p
    (λ x e. e ∙ ap (λ o. told (record (without_at s at) { tried = tried_of s.tried o }) reply) there)
    (made_as s p (trying reply at room) is (ready_trying s p small reply at room ticket is lt (ticket_there s.out at ticket lt there) fits))
