-- What sides stand for after one more record, and after a checkpoint.
use Rattle.std.proofs.Common.{◌≡◌, ◌∙◌, inl, inr, ⊎_elim, ◌⊎◌, sym, ap, subst, refl, ℕ, ◌+◌, Option, Some, None, List, [], ◌∷◌, ◌++◌, map}
use Rattle.outside.specs.Disk.{Sides}
use Rattle.outside.specs.declared.side.Side.{Side}
use Rattle.journal_core.specs.Sides.{StandsAt, IsBeforeOrAfterAppend, IsBeforeOrOne, other}
use Rattle.proof_entries.specs.declared.Entry.{Entry}
use Rattle.core_steps.specs.declared.durable.Durable.{Durable}
use Rattle.core_steps.specs.declared.events.Event.{Event}
use Rattle.core_steps.specs.declared.events.Reply.{Reply}
use Rattle.core_steps.specs.State.{State, entered, entered_if, after, no_texts}
use Rattle.core_steps.specs.Step.{Does}
use Rattle.core_steps.specs.StateEntries.{state_entries}
use Rattle.project_store.specs.Records.{IsBody, IsSmall, after_all, Leads, Recovers, RecoversAt, or_build, checkpoint_entries}
use Rattle.project_store.specs.Private.{IsEither}
use Rattle.project_store.specs.Store.{IsBeforeOrAfter}

pub leads_on : (d : Durable) (bodies : List (List ℕ)) (e : Durable) (body : List ℕ) (entries : List Entry) → Leads d bodies e → IsBody body entries → IsSmall (after_all e entries)
    → Leads d (bodies ++ body ∷ []) (after_all e entries)
leads_on d [] e body entries is whole small = (entries, whole, subst (λ f. IsSmall (after_all f entries)) is small, ap (λ f. after_all f entries) is)
leads_on d (first ∷ bodies) e body entries leads whole small = (leads.0, leads.1, leads.2, leads_on (after_all d leads.0) bodies e body entries leads.3 whole small)

built_again : (es : List Entry) → after_all no_texts (or_build es) ≡ after_all no_texts es
built_again [] = refl
built_again (e ∷ es) = refl

-- from nothing, the entries of a checkpoint lead to the durable
pub checkpoint_again : ((d : Durable) → after no_texts (map Some (state_entries d)) ≡ d) → (d : Durable) → after_all no_texts (checkpoint_entries d) ≡ d
checkpoint_again again d = built_again (state_entries d) ∙ again d

pub the_state : ((d : Durable) → after no_texts (map Some (state_entries d)) ≡ d) → (d : Durable) (side : Side) (generation : ℕ) (state : List ℕ) → IsBody state (checkpoint_entries d) → IsSmall d
    → (c : Sides) → StandsAt c side generation (state ∷ []) → RecoversAt c side generation d
the_state again d side generation state is small c stands = record {
  bodies = state ∷ [];
  stands = stands;
  leads = (checkpoint_entries d, is, subst IsSmall (sym (checkpoint_again again d)) small, sym (checkpoint_again again d));
}

module _ (side : Side) (generation : ℕ) (d : Durable) (bodies : List (List ℕ)) (leads : Leads no_texts bodies d) where
  pub one_further : (entry : Entry) (body : List ℕ) → IsBody body (entry ∷ []) → IsSmall (entered d entry) → (c : Sides) → StandsAt c side generation (bodies ++ body ∷ []) → RecoversAt c side generation (entered d entry)
  one_further entry body is small c stands = record {
    bodies = bodies ++ body ∷ [];
    stands = stands;
    leads = leads_on no_texts bodies d body (entry ∷ []) leads is small;
  }

  pub before_or_after : (entry : Entry) (body : List ℕ) → IsBody body (entry ∷ []) → IsSmall (entered d entry) → (c : Sides) → IsBeforeOrAfterAppend side generation bodies body c → Recovers c d ⊎ Recovers c (entered d entry)
  before_or_after entry body is small c stands =
      ⊎_elim (λ old. inl (side, generation, record { bodies = bodies; stands = old; leads = leads })) (λ new. inr (side, generation, one_further entry body is small c new)) stands

  pub before_or_state : ((e : Durable) → after no_texts (map Some (state_entries e)) ≡ e) → (state : List ℕ) → IsBody state (checkpoint_entries d) → IsSmall d → (c : Sides) → IsBeforeOrOne side generation bodies state c → Recovers c d
  before_or_state again state is small c stands =
      ⊎_elim (λ old. (side, generation, record { bodies = bodies; stands = old; leads = leads })) (λ new. (other side, generation + 1, the_state again d (other side) (generation + 1) state is small c new)) stands

-- what a stop leaves, by the entry of the event, if it adds one
pub as_event : (s : State) (event : Event) (reply : Reply) (entry : Option Entry) (new : State) → Does s event reply entry new → new.durable ≡ entered_if s.durable entry → (c : Sides) → IsEither s.durable entry c → IsBeforeOrAfter s event c
as_event s event reply None new does is c either = inl either
as_event s event reply (Some entry) new does is c either = ⊎_elim (λ old. inl old) (λ further. inr (reply, entry, new, does, subst (Recovers c) (sym is) further)) either
