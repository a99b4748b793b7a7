-- All is there for what is prepared, and what comes of it.
use Rattle.std.proofs.Common.{◌≡◌, ◌∙◌, sym, ap, subst, ℕ, ◌+◌, ◌<◌, ◌^◌, List, [], ◌∷◌, ◌++◌, get_or, length}
use Rattle.std.specs.Prelude.{Option, Some, None, false, slice_get, IfSome}
use Rattle.std.specs.FinMap.{insert, remove, len, contains_key}
use Rattle.std.proofs.lemmas.Option.{slice_get-get_or}
use Rattle.sequent_core.specs.declared.Ticket.{Ticket}
use Rattle.proof_entries.specs.declared.Proof.{Proof}
use Rattle.core_steps.specs.declared.events.Reply.{Reply}
use Rattle.core_steps.specs.Durable.{ProjectMap, IsSmallProject}
use Rattle.proof_entries.specs.declared.Entry.{Entry}
use Rattle.proof_entries.specs.declared.Entry.TheVariants.{Put, Drop, Build, SetProof, Purge}
use Rattle.core_steps.specs.State.{State}
use Rattle.core_steps.specs.Outcomes.{told, entering}
use Rattle.prepared_events.specs.Prepared.{Ready, IsReady, FitsBuilt, FitsTried}
use Rattle.prepared_events.specs.Making.{telling, putting, dropping, building, purging, keeping, sending, trying, taking_in}
use Rattle.status_core.specs.PrivateParts.{without_at, ComesAs}
use Rattle.status_core.proofs.Made.{made_as}

module _ (s : State) (p : Ready) (small : IsSmallProject s.durable.texts) (reply : Reply) where
  pub ready_telling : p ≡ telling reply → IsReady s p
  ready_telling e = subst (IsReady s) (sym e) (record { texts = small; entry_room = tt; built = tt; ticket_room = tt })

  pub ready_putting : (name text : List ℕ) (room : ℕ) → p ≡ putting reply name text room → IsSmallProject (insert s.durable.texts name text) →
      (contains_key s.durable.texts name ≡ false → len s.durable.texts < room) → IsReady s p
  ready_putting name text room e grown fits = subst (IsReady s) (sym e) (record { texts = grown; entry_room = fits; built = tt; ticket_room = tt })

  pub ready_dropping : (name : List ℕ) → p ≡ dropping reply name → IsSmallProject (remove s.durable.texts name) → IsReady s p
  ready_dropping name e less = subst (IsReady s) (sym e) (record { texts = less; entry_room = tt; built = tt; ticket_room = tt })

  pub ready_building : p ≡ building reply s.durable.texts → IsReady s p
  ready_building e = subst (IsReady s) (sym e) (record { texts = small; entry_room = tt; built = λ i. Some s.durable.texts; ticket_room = tt })

  pub ready_purging : (names : List (List ℕ)) → p ≡ purging reply names → IsReady s p
  ready_purging names e = subst (IsReady s) (sym e) (record { texts = small; entry_room = tt; built = tt; ticket_room = tt })

  pub ready_keeping : (name : List ℕ) (proof : Proof) (room : ℕ) → p ≡ keeping reply name proof room →
      (contains_key s.durable.proofs name ≡ false → len s.durable.proofs < room) → IsReady s p
  ready_keeping name proof room e fits = subst (IsReady s) (sym e) (record { texts = small; entry_room = fits; built = tt; ticket_room = tt })

  pub ready_sending : (ticket : Ticket) (room : ℕ) → p ≡ sending reply ticket room → length s.out < room → s.next + 1 < 2 ^ 64 → IsReady s p
  ready_sending ticket room e fits next = subst (IsReady s) (sym e) (record { texts = small; entry_room = tt; built = tt; ticket_room = (fits, next) })

  pub ready_trying : (at room : ℕ) (ticket : Ticket) → p ≡ trying reply at room → at < length s.out → ticket ≡ get_or s.out at ticket → FitsTried s.tried room ticket → IsReady s p
  ready_trying at room ticket e lt there fits =
      let found : Some ticket ≡ slice_get s.out at = ap Some there ∙ sym (slice_get-get_or s.out at ticket lt) in
      subst (IsReady s) (sym e) (record { texts = small; entry_room = tt; built = tt; ticket_room = (lt, subst (λ t. IfSome t (FitsTried s.tried room)) found fits) })

-- what is ready is so with a ticket that comes in
pub ready_taking_in : (s : State) (p q : Ready) (at : ℕ) → p ≡ taking_in q at → at < length s.out → IsReady s q → IsReady s p
ready_taking_in s p q at e lt ready = subst (IsReady s) (sym e) (record { texts = ready.texts; entry_room = ready.entry_room; built = ready.built; ticket_room = lt })

-- WHAT COMES OF IT

module _ (s : State) (p : Ready) (small : IsSmallProject s.durable.texts) (reply : Reply) where
  pub comes_telling : p ≡ telling reply → ComesAs s (λ x. x ≡ told s reply) p
  comes_telling e = made_as s p (telling reply) e (ready_telling s p small reply e)

  pub comes_putting : (name text : List ℕ) (room : ℕ) → p ≡ putting reply name text room → IsSmallProject (insert s.durable.texts name text) →
      (contains_key s.durable.texts name ≡ false → len s.durable.texts < room) → ComesAs s (λ x. x ≡ entering s reply (Put name text)) p
  comes_putting name text room e grown fits = made_as s p (putting reply name text room) e (ready_putting s p small reply name text room e grown fits)

  pub comes_dropping : (name : List ℕ) → p ≡ dropping reply name → IsSmallProject (remove s.durable.texts name) → ComesAs s (λ x. x ≡ entering s reply (Drop name)) p
  comes_dropping name e less = made_as s p (dropping reply name) e (ready_dropping s p small reply name e less)

  pub comes_building : p ≡ building reply s.durable.texts → ComesAs s (λ x. x ≡ entering s reply Build) p
  comes_building e = made_as s p (building reply s.durable.texts) e (ready_building s p small reply e)

  pub comes_purging : (names : List (List ℕ)) → p ≡ purging reply names → ComesAs s (λ x. x ≡ entering s reply (Purge names)) p
  comes_purging names e = made_as s p (purging reply names) e (ready_purging s p small reply names e)

  pub comes_keeping : (name : List ℕ) (proof : Proof) (room : ℕ) → p ≡ keeping reply name proof room →
      (contains_key s.durable.proofs name ≡ false → len s.durable.proofs < room) → ComesAs s (λ x. x ≡ entering s reply (SetProof name proof)) p
  comes_keeping name proof room e fits = made_as s p (keeping reply name proof room) e (ready_keeping s p small reply name proof room e fits)

  pub comes_sending : (ticket : Ticket) (room : ℕ) → p ≡ sending reply ticket room → length s.out < room → s.next + 1 < 2 ^ 64 →
      ComesAs s (λ x. x ≡ record { reply = reply; entry = None; new = record s { out = s.out ++ ticket ∷ []; next = s.next + 1 } }) p
  comes_sending ticket room e fits next = made_as s p (sending reply ticket room) e (ready_sending s p small reply ticket room e fits next)

  pub comes_taking_in : (q : Ready) (at : ℕ) → p ≡ taking_in q at → q ≡ telling reply → at < length s.out → ComesAs s (λ x. x ≡ told (without_at s at) reply) p
  comes_taking_in q at e is lt =
      made_as s p (taking_in (telling reply) at) (e ∙ ap (λ (r : Ready). taking_in r at) is) (ready_taking_in s p q at e lt (ready_telling s q small reply is))

  pub comes_keeping_in : (q : Ready) (name : List ℕ) (proof : Proof) (room at : ℕ) → p ≡ taking_in q at → q ≡ keeping reply name proof room →
      (contains_key s.durable.proofs name ≡ false → len s.durable.proofs < room) → at < length s.out →
      ComesAs s (λ x. x ≡ entering (without_at s at) reply (SetProof name proof)) p
  comes_keeping_in q name proof room at e is fits lt =
      made_as s p (taking_in (keeping reply name proof room) at) (e ∙ ap (λ (r : Ready). taking_in r at) is)
      (ready_taking_in s p q at e lt (ready_keeping s q small reply name proof room is fits))

-- what was built are the present texts, for what is the same
pub fits_built : (texts : ProjectMap) (built b : Option ProjectMap) (entry e : Option Entry) → b ≡ built → e ≡ entry → FitsBuilt texts built entry → FitsBuilt texts b e
fits_built texts built b entry e is same fits =
    subst (λ (x : Option ProjectMap). FitsBuilt texts x e) (sym is) (subst (λ (x : Option Entry). FitsBuilt texts built x) (sym same) fits)
