-- A whole session on an opened store, from what its play and its store tell.
use Rattle.std.proofs.Common.{◌≡◌, ◌∙◌, sym, ap, subst, refl, ℕ, ◌+◌, ◌≤◌, true, false, List, [], ◌∷◌, ◌++◌, map, arith}
use Rattle.std.specs.Prelude.{Option, Some, None}
use Rattle.std.specs.Option.{option_map}
use Rattle.outside.specs.Disk.{Sides, LeavesOnly}
use Rattle.sequent_core.specs.declared.Sequent.{Sequent}
use Rattle.sequent_core.specs.declared.Attempt.{Attempt}
use Rattle.core_steps.specs.declared.Durable.{Durable}
use Rattle.core_steps.specs.declared.Event.{Event}
use Rattle.core_steps.specs.Laws.{EntersAll, TellsTheRebuilt, TellsRebuilt}
use Rattle.core_steps.specs.State.{State, opened, after}
use Rattle.core_steps.specs.Run.{Exchange, Runs}
use Rattle.turn_desk.specs.Log.{NoneFrom}
use Rattle.store_log.specs.declared.Logged.{Logged}
use Rattle.store_log.specs.declared.StoreBase.{StoreBase}
use Rattle.store_log.specs.History.{exchanges_of, events_of}
use Rattle.store_log.specs.StoreLog.{done, marks, chair_of, store_meaning, IsStoreLog}
use Rattle.project_store.specs.declared.fault.KeptFault.{KeptFault}
use Rattle.project_store.specs.Opening.{durable}
use Rattle.project_store.specs.Moments.{StoodWithin}
use Rattle.project_store.specs.Records.{Recovers}
use Rattle.core_steps.specs.Table.{IsTableWithin}
use Rattle.sequent_core.specs.declared.Obligation.{Obligation}
use Rattle.project_store.specs.Store.{StoreState, IsSoundStore, Rests, logged, mark_in, log_in, base_in}
use Rattle.session_run.specs.Dialogue.{begins}
use Rattle.session_run.specs.OneHistory.{OneHistory, CompleteWhenIdle, Progress, CameSoFar, MakesHistory}
use Rattle.session_run.specs.Workers.{begins as none_yet}
use Rattle.session_run.proofs.Runs.{CoreLaws, run_cut}
use Rattle.session_streams.specs.Streams.{SourceState, Writing, reading, writing}
use Rattle.session_streams.proofs.Known.{Appends-nothing, Consumes-nothing}
use Rattle.session_talk.specs.declared.Ending.{Ending}
use Rattle.true_marks.proofs.Truths.{tells_truth}
use Rattle.session_ends.specs.Ends.{IsClean, IsTruthful, HasHistory, EndsWithoutMemory}
use Rattle.session_play.specs.Playing.{IsPlayed}
use Rattle.session_ends.specs.Private.{PlaysEnd, status_at, ending_line}
use Rattle.session_ends.specs.Sessions.{EndsBy, without_memory, IsSession, Opens}
use Rattle.session_ends.specs.Written.{WritesOrFails}
use Rattle.session_ends.proofs.Closing.{Came, came, users, then_nothing}
use Rattle.session_ends.proofs.Endings.{by_none, by_some}

-- THE RUN

-- what lasts is the fold of the entries
folds : EntersAll → (xs : List Exchange) (s t : State) → Runs s xs t → t.durable ≡ after s.durable (map (λ x. x.entry) xs)
folds law [] s t run = ap (λ z. z.durable) run
folds law (x ∷ xs) s t (m, step, rest) = folds law xs m t rest ∙ ap (λ d. after d (map (λ y. y.entry) xs)) (law s x.event x.reply x.entry m step)

-- the statuses in replies are those of clean rebuilds
clean : TellsTheRebuilt → (d : Durable) (xs : List Exchange) → IsClean d xs
clean law d xs before x behind s cut run =
    let c = run_cut (opened d) s before (x ∷ []) run in
    subst (λ (z : State). TellsRebuilt z.durable x.reply) (sym c.2.2) (law c.0 x.event x.reply x.entry c.2.0 c.2.1)

-- what replies show discharged is true
truthful : (d : Durable) (xs : List Exchange) → IsClean d xs → IsTruthful d xs
truthful d xs clean before x behind s cut run = tells_truth s.durable x.reply (clean before x behind s cut run)

-- the log of a store, by the exchanges of its history
log_is : (history : List (ℕ × Event)) (xs : List (ℕ × Exchange)) (m : List Logged) → history ≡ events_of xs → map logged history ++ m ≡ map done xs ++ m
log_is history xs m is = ap (λ h. map logged h ++ m) is ∙ same xs where
  same : (ys : List (ℕ × Exchange)) → map logged (events_of ys) ++ m ≡ map done ys ++ m
  same [] = refl
  same (y ∷ ys) = ap (λ l. done y ∷ l) (same ys)

module _ {D : Type 0} (told : Type 0) (bytes_of : D → Sides) (images : D → Sides → Type 0) (clock : D → ℕ) (moments : D → ℕ → Sides → Type 0) (faults : D → ℕ)
    (laws : CoreLaws) (enters : EntersAll) (rebuilt : TellsTheRebuilt) (fair : Sequent → Attempt → Type 0) (sure : Sequent → Type 0)
    (history_law : OneHistory fair) (complete_law : CompleteWhenIdle fair sure) (workers : ℕ)
    (first st : StoreState D) (same : base_in st ≡ base_in first) (sound : IsSoundStore told bytes_of images faults st)
    (rests : Rests told bytes_of images st)
    (source : SourceState) (before after_ last : Option (List ℕ)) (f g h : ℕ) (high : g ≤ h) (ending : Ending)
    (played : IsPlayed chair_of store_meaning fair workers (base_in first) (log_in st) source (writing before after_ f g) ending)
    (wrote : WritesOrFails (writing after_ last g h) (ending_line ending (option_map (λ k. k.fault) st.kept))) where
  store : IsStoreLog (base_in st) (log_in st) sound.exchanges (mark_in st.kept) st.core
  store = record { entries = log_is st.history sound.exchanges (marks (mark_in st.kept)) sound.run.events; run = sound.run.run }

  p : IsPlayed chair_of store_meaning fair workers (base_in st) (log_in st) source (writing before after_ f g) ending
  p = subst (λ b. IsPlayed chair_of store_meaning fair workers b (log_in st) source (writing before after_ f g) ending) (sym same) played

  abbrev comes : Came laws fair (base_in st) (log_in st) sound.exchanges (mark_in st.kept) st.core store p.seen p.has_seen source (writing before after_ f g)
      p.converses.taken p.converses.ended p.converses.lines p.converses.left p.converses.text p.converses.read
  comes = came laws fair (base_in st) (log_in st) sound.exchanges (mark_in st.kept) st.core store p.seen p.has_seen source (writing before after_ f g)
      p.converses.taken p.converses.ended p.converses.lines p.converses.left p.converses.text p.converses.read ending p.converses.over

  abbrev progress : ℕ → Progress
  progress user = record { lines = comes.reach.lines; begun = comes.reach.begun; text = comes.reach.text }

  came_so_far : CameSoFar fair sound.exchanges (mark_in st.kept) 0 (progress 0)
  came_so_far = record {
    users = users fair source sound.exchanges comes.reach;
    reached = comes.reach.reached;
    own_mark = comes.own_mark;
  }

  makes : MakesHistory fair (base_in st) sound.exchanges (mark_in st.kept) st.core 1 workers progress
  makes = history_law (base_in st) (log_in st) sound.exchanges (mark_in st.kept) st.core 1 workers progress (record {
    store = store;
    served = λ k low high. p.served k (omega (arith, low)) (omega (arith, high));
    unmade = let same_count : workers + 1 ≡ 1 + workers = omega arith in subst (λ n. NoneFrom chair_of n (log_in st)) same_count p.unmade;
    each = λ user low. let zero_ : 0 ≡ user = omega (arith, low) in
        subst (λ n. CameSoFar fair sound.exchanges (mark_in st.kept) n (progress n)) zero_ came_so_far;
  })

  has_history : HasHistory fair sure workers st.base st.history st.core.durable sound.exchanges st.core
  has_history = record {
    run = sound.run.run;
    legal = makes.legal;
    events = sound.run.events;
    lasts = refl;
    folds = folds enters (exchanges_of sound.exchanges) (opened st.base) st.core sound.run.run;
    clean = clean rebuilt st.base (exchanges_of sound.exchanges);
    truthful = truthful st.base (exchanges_of sound.exchanges) (clean rebuilt st.base (exchanges_of sound.exchanges));
    worked = makes.worked;
    complete = complete_law st.base (exchanges_of sound.exchanges) st.core makes.fair_run;
  }

  by : (kept : Option KeptFault) → st.kept ≡ kept → EndsBy fair workers (status_at ending (option_map (λ k. k.fault) kept)) st.kept source (writing before last f h) sound.exchanges st.core
  by None is = by_none laws fair workers (base_in st) (log_in st) sound.exchanges st.kept st.core store p.seen p.has_seen source before after_ last f g h p.converses.sink_later high
      p.converses.taken p.converses.ended p.converses.lines p.converses.left p.converses.text p.converses.read is (makes.finished (ap mark_in is)) ending p.converses.over makes.failed
      (subst (λ k. WritesOrFails (writing after_ last g h) (ending_line ending (option_map (λ z. z.fault) k))) is wrote)
  by (Some k) is = by_some laws fair workers (base_in st) (log_in st) sound.exchanges st.kept st.core store p.seen p.has_seen source before after_ last f g h p.converses.sink_later high
      p.converses.taken p.converses.ended p.converses.lines p.converses.left p.converses.text p.converses.read k is ending p.converses.over makes.failed
      (subst (λ z. WritesOrFails (writing after_ last g h) (ending_line ending (option_map (λ y. y.fault) z))) is wrote)

  abbrev at_first : (old : D) → Opens told bytes_of images clock moments faults old first → Opens told bytes_of images clock moments faults old st
  at_first old o = record {
    stood = λ t. subst (λ (b : StoreBase). Recovers (bytes_of old) b.durable) (sym same) (o.stood t);
    exactly = λ t meaning stands. o.exactly t meaning stands ∙ ap (λ (b : StoreBase). durable b.durable) (sym same);
    fits = subst (λ (b : StoreBase). (table : List Obligation) × IsTableWithin b.durable.built table) (sym same) o.fits;
    counted = ap (λ (b : StoreBase). b.faults) same ∙ o.counted;
  }

  -- the whole session
  pub whole : (old : D) → Opens told bytes_of images clock moments faults old first → (told → LeavesOnly clock moments old st.journal.disk (StoodWithin (images old) st)) →
      IsSession told bytes_of images clock moments faults fair sure workers old st.journal.disk source (writing before last f h) (status_at ending (option_map (λ k. k.fault) st.kept)) st.history st.core.durable
  whole old o stood = record {
    store = st;
    disk = refl;
    opens = at_first old o;
    xs = sound.exchanges;
    plays = has_history;
    events = refl;
    light = sound.light;
    rests = rests;
    stops = sound.stops;
    any_moment = stood;
    later = subst (λ n. n ≤ faults st.journal.disk) (at_first old o).counted sound.counted;
    cause = sound.cause;
    ends = by st.kept refl;
  }

none_cut : {X : Type 0} (before : List X) (x : X) (behind : List X) → [] ≡ before ++ x ∷ behind → ⊥
none_cut [] x behind e = cc
none_cut (y ∷ before) x behind e = cc

-- memory ran out before anything was done
module _ {D : Type 0} (told : Type 0) (bytes_of : D → Sides) (images : D → Sides → Type 0) (clock : D → ℕ) (moments : D → ℕ → Sides → Type 0) (faults : D → ℕ)
    (fair : Sequent → Attempt → Type 0) (sure : Sequent → Type 0) (workers : ℕ) (st : StoreState D) (sound : IsSoundStore told bytes_of images faults st)
    (rests : Rests told bytes_of images st) (begun : st.core ≡ opened st.base) (empty : st.history ≡ []) (open_ : st.kept ≡ None)
    (left : Option (List ℕ)) (lost : ℕ) (before last : Option (List ℕ)) (f h : ℕ) (wrote : WritesOrFails (writing before last f h) []) (low : f ≤ h) where
  unread : EndsWithoutMemory fair workers (reading left left lost lost) (writing before last f h) [] None st.core
  unread = record {
    reached = record {
      taken = [];
      ended = false;
      lines = [];
      left = [];
      text = [];
      begun = None;
      read = record {
        takes = Consumes-nothing left;
        most = omega arith;
        at_end = λ is. let wrong : false ≡ true = is in absurd cc;
        within = λ is. omega arith;
        given = [];
        in_order = refl;
        say = tt;
      };
      next = tt;
      reached = begins;
    };
    done = tt;
    failed = tt;
    written = then_nothing before before last f f h (omega arith) low [] (Appends-nothing before) wrote;
  }

  pub nothing_played : (old : D) → Opens told bytes_of images clock moments faults old st → (told → LeavesOnly clock moments old st.journal.disk (StoodWithin (images old) st)) →
      IsSession told bytes_of images clock moments faults fair sure workers old st.journal.disk (reading left left lost lost) (writing before last f h) 9 st.history st.core.durable
  nothing_played old o stood = record {
    store = st;
    disk = refl;
    opens = o;
    xs = [];
    plays = record {
      run = begun;
      legal = tt;
      events = empty;
      lasts = refl;
      folds = ap (λ z. z.durable) begun;
      clean = λ xs x behind s cut run. absurd (none_cut xs x behind cut);
      truthful = λ xs x behind s cut run. absurd (none_cut xs x behind cut);
      worked = record { each = λ k low_ high. (None, none_yet); others = λ k high. refl };
      complete = λ xs x behind s cut run e r. absurd (none_cut xs x behind cut);
    };
    events = refl;
    light = sound.light;
    rests = rests;
    stops = sound.stops;
    any_moment = stood;
    later = subst (λ n. n ≤ faults st.journal.disk) o.counted sound.counted;
    cause = sound.cause;
    ends = subst (λ k. EndsBy fair workers 9 k (reading left left lost lost) (writing before last f h) [] st.core) (sym open_) (without_memory refl unread);
  }

pub plays_end : {D : Type 0} (told : Type 0) (bytes_of : D → Sides) (images : D → Sides → Type 0) (clock : D → ℕ) (moments : D → ℕ → Sides → Type 0) (faults : D → ℕ) (fair : Sequent → Attempt → Type 0) (sure : Sequent → Type 0) →
    CoreLaws → EntersAll → TellsTheRebuilt → OneHistory fair → CompleteWhenIdle fair sure → PlaysEnd told bytes_of images clock moments faults fair sure
plays_end told bytes_of images clock moments faults fair sure laws enters rebuilt one complete workers first last source before between after_ f g h ending old opens same sound rests stood played wrote high =
    whole told bytes_of images clock moments faults laws enters rebuilt fair sure one complete workers first last same sound rests source before between after_ f g h high ending played wrote old opens stood

-- the same session, told of what it left
pub moved : {D : Type 0} (told : Type 0) (bytes_of : D → Sides) (images : D → Sides → Type 0) (clock : D → ℕ) (moments : D → ℕ → Sides → Type 0) (faults : D → ℕ) (fair : Sequent → Attempt → Type 0) (sure : Sequent → Type 0) (workers : ℕ)
    (old disk new : D) (source : SourceState) (sink : Writing) (status now : ℕ) (history events : List (ℕ × Event)) (last lasts : Durable) →
    new ≡ disk → now ≡ status → events ≡ history → lasts ≡ last →
    IsSession told bytes_of images clock moments faults fair sure workers old disk source sink status history last → IsSession told bytes_of images clock moments faults fair sure workers old new source sink now events lasts
moved {D} told bytes_of images clock moments faults fair sure workers old disk new source sink status now history events last lasts a b c d s =
    subst (λ (z : D × ℕ × List (ℕ × Event) × Durable). IsSession told bytes_of images clock moments faults fair sure workers old z.0 source sink z.1 z.2 z.3) (λ i. (sym a i, sym b i, sym c i, sym d i)) s
