-- The log of a store, and what its acts do to it.
use Rattle.std.proofs.Common.{◌≡◌, ◌∙◌, ⊎_elim, inl, inr, sym, ap, subst, refl, ℕ, List, Option, Some, None, [], ◌∷◌, ◌++◌, map}
use Rattle.std.specs.Prelude.{Result, Ok, Err, IfOk, OnOk, OnErr, MatchResult}
use Rattle.std.proofs.lemmas.List.{map-append, append-nil}
use Rattle.outside.specs.Disk.{Sides}
use Rattle.core_steps.specs.declared.events.Event.{Event}
use Rattle.core_steps.specs.declared.events.Reply.{Reply}
use Rattle.core_steps.specs.Run.{Exchange}
use Rattle.turn_desk.specs.Log.{Grows}
use Rattle.store_log.specs.History.{events_of}
use Rattle.store_log.specs.StoreLog.{chair_of, done, marks, PerformsInLog}
use Rattle.store_log.specs.Storing.{failure_mark, RefusesEvent, Handles}
use Rattle.store_log.specs.declared.fault.StoreFault.{StoreFault}
use Rattle.project_store.specs.declared.fault.KeptFault.{KeptFault}
use Rattle.project_store.specs.Store.{met, StoreState, IsSoundStore, Performs, again, logged, mark_in, log_in, base_in}

-- the acts of a history, as entries
all_logged : (xs : List (ℕ × Exchange)) → map logged (events_of xs) ≡ map done xs
all_logged [] = refl
all_logged (x ∷ xs) = λ i. done x ∷ all_logged xs i

module _ {D : Type 0} (told : Type 0) (bytes_of : D → Sides) (images : D → Sides → Type 0) (faults : D → ℕ) (old new : StoreState D) where
  unmarked : (s : StoreState D) → s.kept ≡ None → log_in s ≡ map logged s.history
  unmarked s none = ap (λ k. map logged s.history ++ marks (mark_in k)) none ∙ append-nil (map logged s.history)

  marked : (s : StoreState D) (fault : KeptFault) → s.kept ≡ Some fault → log_in s ≡ map logged s.history ++ failure_mark fault.act.0 fault.act.1 ∷ []
  marked s fault some = ap (λ k. map logged s.history ++ marks (mark_in k)) some

  module _ (chair : ℕ) (event : Event) where
    performed : (reply : Reply) → IsSoundStore told bytes_of images faults old → old.kept ≡ None → new.kept ≡ None → new.history ≡ old.history ++ (chair, event) ∷ [] → Performs old event reply new
        → PerformsInLog (base_in old) chair event reply (log_in old) (log_in new)
    performed reply s none still noted step = record {
      xs = s.exchanges;
      before = old.core;
      now = new.core;
      entry = step.entry;
      log = record { entries = unmarked old none ∙ ap (map logged) s.run.events ∙ all_logged s.exchanges; run = s.run.run };
      step = step.does;
      adds = unmarked new still ∙ ap (map logged) noted ∙ map-append logged old.history ((chair, event) ∷ []) ∙ ap (λ l. l ++ logged (chair, event) ∷ []) (sym (unmarked old none));
    }

    refused_first : (fault : StoreFault) → old.kept ≡ None → new.kept ≡ Some (met fault chair event) → new.history ≡ old.history → RefusesEvent chair event (log_in old) (log_in new)
    refused_first fault none kept same =
        let adds = marked new (met fault chair event) kept ∙ ap (λ h. map logged h ++ failure_mark chair event ∷ []) same ∙ ap (λ l. l ++ failure_mark chair event ∷ []) (sym (unmarked old none)) in
        (inr adds, (log_in old, failure_mark chair event, adds, refl))

    refused_again : (fault : KeptFault) → old.kept ≡ Some fault → new ≡ old → RefusesEvent chair event (log_in old) (log_in new)
    refused_again fault kept same =
        let is = ap log_in same in
        (inl is, (map logged old.history, failure_mark fault.act.0 fault.act.1, is ∙ marked old fault kept, refl))

    pub applies : (result : Result Reply StoreFault) → IsSoundStore told bytes_of images faults old → IfOk result (λ reply. Performs old event reply new) → OnOk result (new.history ≡ old.history ++ (chair, event) ∷ [])
        → OnErr result ((new.core ≡ old.core) × (new.history ≡ old.history)) → ((kept : KeptFault) → old.kept ≡ Some kept → (result ≡ Err (again kept.fault)) × (new ≡ old))
        → (old.kept ≡ None → MatchResult result (λ reply. new.kept ≡ None) (λ fault. new.kept ≡ Some (met fault chair event))) → Handles (base_in old) chair event (log_in old) result (log_in new)
    applies result s step noted same after kept = split old.kept refl
      where
        first : (r : Result Reply StoreFault) → old.kept ≡ None → IfOk r (λ reply. Performs old event reply new) → OnOk r (new.history ≡ old.history ++ (chair, event) ∷ []) → OnErr r ((new.core ≡ old.core) × (new.history ≡ old.history))
            → MatchResult r (λ reply. new.kept ≡ None) (λ fault. new.kept ≡ Some (met fault chair event)) → Handles (base_in old) chair event (log_in old) r (log_in new)
        first (Ok reply) none does note stays keeps = performed reply s none keeps note does
        first (Err fault) none does note stays keeps = refused_first fault none keeps stays.1

        split : (k : Option KeptFault) → old.kept ≡ k → Handles (base_in old) chair event (log_in old) result (log_in new)
        split None none = first result none step noted same (kept none)
        split (Some fault) some =
            let w = after fault some in
            subst (λ r. Handles (base_in old) chair event (log_in old) r (log_in new)) (sym w.0) (refused_again fault some w.1)

pub grows : {D : Type 0} (old new : StoreState D) (chair : ℕ) (event : Event) (result : Result Reply StoreFault) → Handles (base_in old) chair event (log_in old) result (log_in new) → Grows chair_of chair (log_in old) (log_in new)
grows old new chair event (Ok reply) applied = inr (logged (chair, event), refl, applied.adds)
grows old new chair event (Err fault) applied = ⊎_elim (λ same. inl same) (λ adds. inr (failure_mark chair event, refl, adds)) applied.0
