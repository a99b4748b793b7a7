-- What a stop since the opening left stands for a front of the history, also after one more act.
use Rattle.std.proofs.Common.{◌≡◌, ◌∙◌, ⊎_elim, ◌⊎◌, inl, inr, sym, ap, subst, refl, ℕ, ◌≤◌, true, Option, Some, None, List, [], ◌∷◌, ◌++◌, arith}
use Rattle.std.proofs.lemmas.List.{map-append, append_assoc, append-nil}
use Rattle.outside.specs.Disk.{Sides, LeavesOnly}
use Rattle.journal_core.specs.Start.{JournalStandsAsSome}
use Rattle.journal_core.specs.State.{JournalState}
use Rattle.core_steps.specs.declared.durable.Durable.{Durable}
use Rattle.core_steps.specs.declared.events.Event.{Event}
use Rattle.core_steps.specs.Run.{Exchange, Runs}
use Rattle.core_steps.specs.State.{State, opened}
use Rattle.store_log.specs.History.{exchanges_of, events_of}
use Rattle.store_log.specs.declared.fault.StoreFault.{StoreFault}
use Rattle.store_log.specs.declared.fault.StoreFault.TheVariants.{DiskFault}
use Rattle.project_store.specs.declared.fault.KeptFault.{KeptFault}
use Rattle.project_store.specs.Records.{Recovers}
use Rattle.project_store.specs.Moments.{StandsAtFront, StoodWithin, IsOpenedOn, HasStood}
use Rattle.project_store.specs.Store.{StoreState, IsBeforeOrAfter, HasEntryOf, IsHistoryOf, met}
use Rattle.project_store.proofs.Keeping.{run_on}
use Rattle.project_store.proofs.Starting.{lifts_some}

-- FRONTS

module _ (base : Durable) (acts : List (ℕ × Event)) (c : Sides) where
  -- a front of some acts is one of more
  more_acts : (act : ℕ × Event) → StandsAtFront base acts c → StandsAtFront base (acts ++ act ∷ []) c
  more_acts act f = record {
    front = f.front;
    behind = f.behind ++ act ∷ [];
    parts = ap (λ l. l ++ act ∷ []) f.parts ∙ append_assoc (events_of f.front) f.behind (act ∷ []);
    state = f.state;
    run = f.run;
    stands = f.stands;
  }

  module _ (xs : List (ℕ × Exchange)) (core : State) (is : acts ≡ events_of xs) (run : Runs (opened base) (exchanges_of xs) core) where
    -- all acts are a front
    all_acts : Recovers c core.durable → StandsAtFront base acts c
    all_acts stands = record { front = xs; behind = []; parts = is ∙ sym (append-nil (events_of xs)); state = core; run = run; stands = stands }

    -- and so they are with one more, which added an entry
    one_more : (chair : ℕ) (event : Event) → HasEntryOf core event c → StandsAtFront base (acts ++ (chair, event) ∷ []) c
    one_more chair event h =
        let x : ℕ × Exchange = (chair, record { event = event; reply = h.0; entry = Some h.1 }) in
        record {
          front = xs ++ x ∷ [];
          behind = [];
          parts = ap (λ l. l ++ (chair, event) ∷ []) is ∙ sym (map-append (λ (y : ℕ × Exchange). (y.0, y.1.event)) xs (x ∷ [])) ∙ sym (append-nil (events_of (xs ++ x ∷ [])));
          state = h.2;
          run = subst (λ l. Runs (opened base) l h.2) (sym (map-append (λ (y : ℕ × Exchange). y.1) xs (x ∷ []))) (run_on (opened base) (exchanges_of xs) core x.1 h.2 run h.3);
          stands = h.4;
        }

-- MOMENTS

module _ {D : Type 0} (clock : D → ℕ) (moments : D → ℕ → Sides → Type 0) (at : ℕ) (left : Sides → Type 0) (past : ℕ → Sides → Type 0) where
  -- what stood before still counts, and so does what was left since
  chain : (old new : StoreState D) (P : Sides → Type 0) → HasStood clock moments at left past old → LeavesOnly clock moments old.journal.disk new.journal.disk P
      → ((c : Sides) → StoodWithin left old c → StoodWithin left new c) → ((c : Sides) → P c → StoodWithin left new c) → HasStood clock moments at left past new
  chain old new P h leaves still since = record {
    later = omega (arith, h.later, leaves.later);
    each = λ c m. ⊎_elim (λ was. still c (h.each c was)) (λ p. since c p) (leaves.before at c h.later m);
    before = λ t c le m. ⊎_elim (λ was. ⊎_elim (λ first. inl first) (λ w. inr (still c w)) (h.before t c le was)) (λ p. inr (since c p)) (leaves.before t c (omega (arith, le, h.later)) m);
  }

  -- the same on the same disk
  stays : (old new : StoreState D) → new.journal.disk ≡ old.journal.disk → HasStood clock moments at left past old → ((c : Sides) → StoodWithin left old c → StoodWithin left new c) → HasStood clock moments at left past new
  stays old new same h still = record {
    later = subst (λ d. at ≤ clock d) (sym same) h.later;
    each = λ c m. still c (h.each c (subst (λ d. moments d at c) same m));
    before = λ t c le m. ⊎_elim (λ first. inl first) (λ w. inr (still c w)) (h.before t c le (subst (λ d. moments d t c) same m));
  }

  module _ (images : D → Sides → Type 0) (disk : D) (o : IsOpenedOn clock moments at left past images disk) where
    at_first : (s : StoreState D) (c : Sides) → JournalStandsAsSome (images disk) c → StoodWithin left s c
    at_first s c some = let t = lifts_some (images disk) c some in inl (t.0, o.same_images.keeps t.0 t.1, t.2)

    -- of a store that has just been opened
    pub stood_first : (s : StoreState D) → LeavesOnly clock moments disk s.journal.disk (JournalStandsAsSome (images disk)) → HasStood clock moments at left past s
    stood_first s leaves = record {
      later = omega (arith, o.same_moment, leaves.later);
      each = λ c m. at_first s c (leaves.each c (subst (λ t. moments s.journal.disk t c) o.same_moment m));
      before = λ t c le m. ⊎_elim (λ was. inl ((o.same_moments t).keeps c was)) (λ p. inr (at_first s c p)) (leaves.before t c (omega (arith, le, o.same_moment)) m);
    }

    in_time : (s : StoreState D) (c : Sides) → StoodWithin left s c → StoodWithin (images disk) s c
    in_time s c (inl some) = inl (some.0, o.same_images.follows some.0 some.1, some.2)
    in_time s c (inr rest) = inr rest

    -- told of the disk that it was opened on
    pub stood_since : (s : StoreState D) → HasStood clock moments at left past s → LeavesOnly clock moments disk s.journal.disk (StoodWithin (images disk) s)
    stood_since s h = record {
      later = omega (arith, o.same_moment, h.later);
      each = λ c m. in_time s c (h.each c (subst (λ t. moments s.journal.disk t c) (sym o.same_moment) m));
      before = λ t c le m. ⊎_elim (λ was. inl ((o.same_moments t).follows c was)) (λ w. inr (in_time s c w)) (h.before t c (omega (arith, le, o.same_moment)) m);
    }

  module _ (base : Durable) (count : ℕ) where
    abbrev store : JournalState D → State → List (ℕ × Event) → Option KeptFault → StoreState D
    store journal core history kept = record { journal = journal; core = core; history = history; kept = kept; base = base; count = count }

    abbrev pub Stood : JournalState D → State → List (ℕ × Event) → Option KeptFault → Type 0
    Stood journal core history kept = HasStood clock moments at left past (store journal core history kept)

    module _ (journal : JournalState D) (core : State) (history : List (ℕ × Event)) (xs : List (ℕ × Exchange)) (run : IsHistoryOf (store journal core history None) xs) (h : Stood journal core history None) (chair : ℕ) (event : Event) where
      abbrev acts : List (ℕ × Event)
      acts = history ++ (chair, event) ∷ []

      still_done : (now : JournalState D) (new : State) (c : Sides) → StoodWithin left (store journal core history None) c → StoodWithin left (store now new acts None) c
      still_done now new c (inl some) = inl some
      still_done now new c (inr (inl front)) = inr (inl (more_acts base history c (chair, event) front))
      still_done now new c (inr (inr stands)) = inr (inl (more_acts base history c (chair, event) (all_acts base history c xs core run.events run.run stands)))

      since_done : (now : JournalState D) (new : State) (c : Sides) → IsBeforeOrAfter core event c → StoodWithin left (store now new acts None) c
      since_done now new c (inl stands) = inr (inl (more_acts base history c (chair, event) (all_acts base history c xs core run.events run.run stands)))
      since_done now new c (inr entry) = inr (inl (one_more base history c xs core run.events run.run chair event entry))

      -- after an act that is done
      pub stood_done : (now : JournalState D) (new : State) (after : List (ℕ × Event)) → after ≡ acts → LeavesOnly clock moments journal.disk now.disk (IsBeforeOrAfter core event) → Stood now new after None
      stood_done now new after is leaves = subst (λ l. Stood now new l None) (sym is)
          (chain (store journal core history None) (store now new acts None) (IsBeforeOrAfter core event) h leaves (still_done now new) (since_done now new))

      still_kept : (kept : KeptFault) (c : Sides) → StoodWithin left (store journal core history None) c → StoodWithin left (store journal core history (Some kept)) c
      still_kept kept c (inl some) = inl some
      still_kept kept c (inr (inl front)) = inr (inl front)
      still_kept kept c (inr (inr stands)) = inr (inl (all_acts base history c xs core run.events run.run stands))

      -- after a fault with the disk as it was
      pub stood_still : (kept : KeptFault) → Stood journal core history (Some kept)
      stood_still kept = stays (store journal core history None) (store journal core history (Some kept)) refl h (still_kept kept)

      still_failed : (now : JournalState D) (c : Sides) → StoodWithin left (store journal core history None) c → StoodWithin left (store now core history (Some (met DiskFault chair event))) c
      still_failed now c (inl some) = inl some
      still_failed now c (inr (inl front)) = inr (inl front)
      still_failed now c (inr (inr stands)) = inr (inr (inl stands))

      -- after a fault of the disk
      stood_failed : (now : JournalState D) → LeavesOnly clock moments journal.disk now.disk (IsBeforeOrAfter core event) → Stood now core history (Some (met DiskFault chair event))
      stood_failed now leaves = chain (store journal core history None) (store now core history (Some (met DiskFault chair event))) (IsBeforeOrAfter core event) h leaves (still_failed now) (λ c p. inr (inr p))

      -- after an act that met a fault
      pub stood_undone : (now : JournalState D) (new : State) (after : List (ℕ × Event)) (fault : StoreFault) → new ≡ core → after ≡ history
          → ((now ≡ journal) × (fault ≡ DiskFault → ⊥)) ⊎ ((fault ≡ DiskFault) × (now.failed ≡ true))
          → LeavesOnly clock moments journal.disk now.disk (IsBeforeOrAfter core event) → Stood now new after (Some (met fault chair event))
      stood_undone now new after fault core_is is which leaves =
          subst (λ s. Stood now s after (Some (met fault chair event))) (sym core_is)
          (subst (λ l. Stood now core l (Some (met fault chair event))) (sym is)
          (⊎_elim
          (λ w. subst (λ j. Stood j core history (Some (met fault chair event))) (sym w.0) (stood_still (met fault chair event)))
          (λ w. subst (λ f. Stood now core history (Some (met f chair event))) (sym w.0) (stood_failed now leaves))
          which))
