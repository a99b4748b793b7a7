-- The cases of an edit, and of a tree that was found.
use Rattle.std.proofs.Common.{◌≡◌, inl, inr, ℕ, ◌<◌, true, List, length}
use Rattle.std.specs.Prelude.{Option}
use Rattle.formula_core.specs.Names.{is_identifier}
use Rattle.sequent_core.specs.declared.Sequent.{Sequent}
use Rattle.sequent_core.specs.declared.Ticket.{Ticket}
use Rattle.sequent_core.specs.declared.Tree.{Tree}
use Rattle.sequent_core.specs.Provers.{IsGoodTree}
use Rattle.proof_entries.specs.declared.Entry.TheVariants.{Put, SetProof}
use Rattle.core_steps.specs.declared.events.Status.{Status}
use Rattle.core_steps.specs.declared.events.Reply.TheVariants.{BadName, TextTooLong, ProjectFull, Edited, Stored, Refused, Stale}
use Rattle.core_steps.specs.State.{State}
use Rattle.core_steps.specs.Outcomes.{StepOutcome, told, entering, Where, Unless}
use Rattle.core_steps.specs.Editing.{IsFullFor, Edits, bad_name, text_too_long, project_full, edited}
use Rattle.core_steps.specs.Tickets.{CanStore, EndsFound, stored, stale, refused, tried_with, by_prover}

-- EDITS

module _ {s : State} {name text : List ℕ} {x : StepOutcome} where
  -- what follows of each outcome follows
  pub edit_any : {C : Type 0} → Edits s name text x → (x ≡ told s BadName → C) → (x ≡ told s TextTooLong → C) → (x ≡ told s ProjectFull → C) →
      (x ≡ entering s (Edited name) (Put name text) → C) → C
  edit_any (bad_name primed is) f g h i = f is
  edit_any (text_too_long named long is) f g h i = g is
  edit_any (project_full named short full is) f g h i = h is
  edit_any (edited named short room is) f g h i = i is

  -- one test after the other
  pub edit_tests : Edits s name text x →
      Unless (is_identifier name ≡ true) (x ≡ told s BadName)
      (Where (65536 < length text) (x ≡ told s TextTooLong)
      (Where (IsFullFor s.durable.texts name) (x ≡ told s ProjectFull)
      (x ≡ entering s (Edited name) (Put name text))))
  edit_tests (bad_name primed is) = inl (primed, is)
  edit_tests (text_too_long named long is) = inr (named, inl (long, is))
  edit_tests (project_full named short full is) = inr (named, inr (short, inl (full, is)))
  edit_tests (edited named short room is) = inr (named, inr (short, inr (room, is)))

-- TREES THAT WERE FOUND

module _ {s : State} {ticket : Ticket} {sequent : Option Sequent} {tree : Tree} {status : Option Status} {x : StepOutcome} where
  -- what follows of each outcome follows
  pub found_any : {C : Type 0} → EndsFound s ticket sequent tree status x →
      (x ≡ entering s (Stored ticket.name status) (SetProof ticket.name (by_prover tree)) → C) → (x ≡ told s (Stale ticket.name status) → C) →
      (x ≡ told (tried_with s ticket) (Refused ticket.name status) → C) → C
  found_any (stored can is) f g h = f is
  found_any (stale cannot good is) f g h = g is
  found_any (refused cannot bad is) f g h = h is

  -- one test after the other
  pub found_tests : EndsFound s ticket sequent tree status x →
      Where (CanStore s.durable.proofs ticket.name sequent tree)
      (x ≡ entering s (Stored ticket.name status) (SetProof ticket.name (by_prover tree)))
      (Where (IsGoodTree tree ticket.sequent) (x ≡ told s (Stale ticket.name status)) (x ≡ told (tried_with s ticket) (Refused ticket.name status)))
  found_tests (stored can is) = inl (can, is)
  found_tests (stale cannot good is) = inr (cannot, inl (good, is))
  found_tests (refused cannot bad is) = inr (cannot, inr (bad, is))
