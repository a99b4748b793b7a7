-- What sides stand for after the journal was opened.
use Rattle.std.proofs.Common.{◌≡◌, ◌∙◌, inl, inr, sym, ap, subst, refl, ℕ, ◌≤◌, true, false, None, List, [], ◌∷◌, ◌++◌, length, arith}
use Rattle.outside.specs.Disk.{Sides}
use Rattle.outside.specs.declared.side.Side.{Side}
use Rattle.std.specs.List.{AllByRecursion}
use Rattle.journal_core.specs.Sides.{StandsAt, open_records}
use Rattle.journal_core.specs.Start.{JournalMeaning, meaning_of, JournalStandsFor, JournalStandsAs, JournalStandsAsSome, IsJournalAnswerFor, IsJournalCause, foreign as no_journal, damaged as no_record}
use Rattle.journal_core.specs.State.{JournalState}
use Rattle.journal_core.specs.declared.piece.JournalFault.{JournalFault}
use Rattle.journal_core.specs.declared.piece.JournalFault.TheVariants as why
use Rattle.core_steps.specs.declared.durable.Durable.{Durable}
use Rattle.core_steps.specs.declared.events.Event.{Event}
use Rattle.core_steps.specs.Laws.{IsOrderly}
use Rattle.core_steps.specs.State.{State, opened, no_texts}
use Rattle.project_store.specs.declared.fault.OpenFault.{OpenFault}
use Rattle.project_store.specs.declared.fault.OpenFault.TheVariants.{Foreign, Damaged, TableFull, DiskFault, OutOfMemory}
use Rattle.project_store.specs.Records.{IsBody, IsSmall, after_all, Leads}
use Rattle.project_store.specs.Opening.{StoreMeaning, durable, foreign, damaged, StandsFor, StandsAs, StandsAsSome, IsStop, IsCause, IsAnswerFor}
use Rattle.project_store.specs.Private.{IsSingle, FindsStop, IsCoreFault, opening_fault}
use Rattle.project_store.specs.Store.{IsSoundStore, weight}

means_stands : (sides : Sides) (side : Side) (generation : ℕ) (bodies : List (List ℕ)) → JournalStandsFor sides (meaning_of side generation bodies) → StandsAt sides side generation bodies
means_stands sides side generation [] is = is
means_stands sides side generation (body ∷ bodies) is = is

stands_means : (sides : Sides) (side : Side) (generation : ℕ) (bodies : List (List ℕ)) → StandsAt sides side generation bodies → JournalStandsFor sides (meaning_of side generation bodies)
stands_means sides side generation [] is = is
stands_means sides side generation (body ∷ bodies) is = is

stands_still : (old now : Sides) → JournalStandsAs old now → (side : Side) (generation : ℕ) (bodies : List (List ℕ)) → StandsAt old side generation bodies → StandsAt now side generation bodies
stands_still old now as_before side generation bodies stands =
    means_stands now side generation bodies (as_before (meaning_of side generation bodies) (stands_means old side generation bodies stands))

-- sides whose records stand as they did stand for what they did
pub lifts : (old now : Sides) → JournalStandsAs old now → StandsAs old now
lifts old now as_before (durable d) is = (is.0, is.1, record { bodies = is.2.bodies; stands = stands_still old now as_before is.0 is.1 is.2.bodies is.2.stands; leads = is.2.leads })
lifts old now as_before (foreign side) is = as_before (no_journal side) is
lifts old now as_before (damaged side gate) (inl broken) = inl (as_before (no_record side gate) broken)
lifts old now as_before (damaged side gate) (inr bad) =
    inr (record { generation = bad.generation; bodies = bad.bodies; stands = stands_still old now as_before side bad.generation bad.bodies bad.stands; stop = bad.stop })

pub lifts_some : (images : Sides → Type 0) (c : Sides) → JournalStandsAsSome images c → StandsAsSome images c
lifts_some images c some = (some.0, some.1, lifts some.0 c some.2)

pub cause_of : (sides : Sides) (on : Side) (generation : ℕ) (bodies : List (List ℕ)) (fault : OpenFault) → StandsAt sides on generation bodies → IsCoreFault bodies on fault → IsCause sides fault
cause_of sides on generation bodies (TableFull n) stands far = (far.durable, (on, generation, record { bodies = bodies; stands = stands; leads = far.leads }), far.full)
cause_of sides on generation bodies (Damaged side gate) stands stop =
    inr (record { generation = generation; bodies = bodies; stands = subst (λ s. StandsAt sides s generation bodies) (sym stop.0) stands; stop = stop.1.stop })
cause_of sides on generation bodies (Foreign side) stands stop = absurd stop
cause_of sides on generation bodies DiskFault stands stop = absurd stop
cause_of sides on generation bodies OutOfMemory stands stop = tt

-- what the faults of the journal are to the store
pub journal_cause : (sides : Sides) (fault : JournalFault) → IsJournalCause sides fault → IsCause sides (opening_fault fault)
journal_cause sides (why.Foreign side) cause = cause
journal_cause sides (why.Damaged side gate) cause = inl cause
journal_cause sides why.DiskFault cause = tt
journal_cause sides why.OutOfMemory cause = tt

-- RECORDS THAT ARE READ IN ONE WAY

pub one_end : (c : Durable) (bodies : List (List ℕ)) (d e : Durable) → AllByRecursion IsSingle bodies → Leads c bodies d → Leads c bodies e → d ≡ e
one_end c [] d e single leads others = leads ∙ sym others
one_end c (body ∷ bodies) d e single leads others =
    let same = single.0 others.0 leads.0 others.1 leads.1 in
    one_end (after_all c leads.0) bodies d e single.1 leads.3 (subst (λ es. Leads (after_all c es) bodies e) same others.3)

-- where one doesn't lead on, nothing is led to
no_end : (c : Durable) (before : List (List ℕ)) (first : List ℕ) (behind : List (List ℕ)) (d e : Durable) → AllByRecursion IsSingle before → Leads c before d → IsStop d first → Leads c (before ++ first ∷ behind) e → ⊥
no_end c [] first behind d e single leads stop others = subst (λ x. IsStop x first) leads stop others.0 others.1 others.2
no_end c (body ∷ before) first behind d e single leads stop others =
    let same = single.0 others.0 leads.0 others.1 leads.1 in
    no_end (after_all c leads.0) before first behind d e single.1 leads.3 stop (subst (λ es. Leads (after_all c es) (before ++ first ∷ behind) e) same others.3)

abbrev head_or : List ℕ → List (List ℕ) → List ℕ
head_or d [] = d
head_or d (x ∷ xs) = x

abbrev behind_of : List (List ℕ) → List (List ℕ)
behind_of [] = []
behind_of (x ∷ xs) = xs

-- records stop at one place
one_stop : (c : Durable) (before : List (List ℕ)) (first : List ℕ) (behind others : List (List ℕ)) (other : List ℕ) (more : List (List ℕ)) (d e : Durable) → before ++ first ∷ behind ≡ others ++ other ∷ more
    → AllByRecursion IsSingle before → Leads c before d → IsStop d first → Leads c others e → IsStop e other → before ≡ others
one_stop c [] first behind [] other more d e is single leads stop led stuck = refl
one_stop c [] first behind (o ∷ others) other more d e is single leads stop led stuck =
    let same : first ≡ o = ap (head_or first) is in
    absurd (subst (λ x. IsStop x first) leads stop led.0 (subst (λ b. IsBody b led.0) (sym same) led.1) led.2)
one_stop c (b ∷ before) first behind [] other more d e is single leads stop led stuck =
    let same : b ≡ other = ap (head_or b) is in
    absurd (subst (λ x. IsStop x other) led stuck leads.0 (subst (λ x. IsBody x leads.0) same leads.1) leads.2)
one_stop c (b ∷ before) first behind (o ∷ others) other more d e is single leads stop led stuck =
    let same : b ≡ o = ap (head_or b) is in
    let read = single.0 led.0 leads.0 (subst (λ x. IsBody x led.0) (sym same) led.1) leads.1 in
    let rest = one_stop (after_all c leads.0) before first behind others other more d e (ap behind_of is) single.1 leads.3 stop (subst (λ es. Leads (after_all c es) others e) read led.3) stuck in
    λ i. same i ∷ rest i

front_single : (before : List (List ℕ)) (first : List ℕ) (behind : List (List ℕ)) → AllByRecursion IsSingle (before ++ first ∷ behind) → AllByRecursion IsSingle before
front_single [] first behind all = tt
front_single (b ∷ before) first behind all = (all.0, front_single before first behind all.1)

-- WHAT SIDES STAND FOR, BY THE RECORDS OF THE JOURNAL

same_bodies : (s t : Side) (m n : ℕ) (xs ys : List (List ℕ)) → meaning_of s m xs ≡ meaning_of t n ys → xs ≡ ys
same_bodies s t m n [] [] is = refl
same_bodies s t m n [] (y ∷ ys) is = absurd cc
same_bodies s t m n (x ∷ xs) [] is = absurd cc
same_bodies s t m n (x ∷ xs) (y ∷ ys) is = let first : x ≡ y = cc in let rest : xs ≡ ys = cc in λ i. first i ∷ rest i

same_side : (s t : Side) (m n : ℕ) (x : List ℕ) (xs ys : List (List ℕ)) → meaning_of s m (x ∷ xs) ≡ meaning_of t n ys → s ≡ t
same_side s t m n x xs [] is = absurd cc
same_side s t m n x xs (y ∷ ys) is = cc

not_foreign : (f s : Side) (m : ℕ) (xs : List (List ℕ)) → no_journal f ≡ meaning_of s m xs → ⊥
not_foreign f s m [] is = cc
not_foreign f s m (x ∷ xs) is = cc

not_damaged : (f : Side) (at : ℕ) (s : Side) (m : ℕ) (xs : List (List ℕ)) → no_record f at ≡ meaning_of s m xs → ⊥
not_damaged f at s m [] is = cc
not_damaged f at s m (x ∷ xs) is = cc

abbrev HasOnly : Sides → Side → ℕ → List (List ℕ) → Type 0
HasOnly sides side generation bodies = (m : JournalMeaning) → JournalStandsFor sides m → m ≡ meaning_of side generation bodies

-- the records of anything that the sides stand for are these
module _ (sides : Sides) (side : Side) (generation : ℕ) (bodies : List (List ℕ)) (exactly : HasOnly sides side generation bodies) where
  the_bodies : (s : Side) (m : ℕ) (xs : List (List ℕ)) → StandsAt sides s m xs → xs ≡ bodies
  the_bodies s m xs stands = same_bodies s side m generation xs bodies (exactly (meaning_of s m xs) (stands_means sides s m xs stands))

  -- a start that opens the core
  pub opened_means : (d : Durable) → Leads no_texts bodies d → AllByRecursion IsSingle bodies → (meaning : StoreMeaning) → StandsFor sides meaning → meaning ≡ durable d
  opened_means d leads single (durable e) is =
      ap durable (one_end no_texts bodies e d single (subst (λ bs. Leads no_texts bs e) (the_bodies is.0 is.1 is.2.bodies is.2.stands) is.2.leads) leads)
  opened_means d leads single (foreign f) is = absurd (not_foreign f side generation bodies (exactly (no_journal f) is))
  opened_means d leads single (damaged s at) (inl broken) = absurd (not_damaged s at side generation bodies (exactly (no_record s at) broken))
  opened_means d leads single (damaged s at) (inr bad) =
      let parts = sym bad.stop.parts ∙ the_bodies s bad.generation bad.bodies bad.stands in
      absurd (no_end no_texts bad.stop.before bad.stop.first bad.stop.behind bad.stop.durable d
      (front_single bad.stop.before bad.stop.first bad.stop.behind (subst (AllByRecursion IsSingle) (sym parts) single)) bad.stop.leads bad.stop.stop (subst (λ bs. Leads no_texts bs d) (sym parts) leads))

  -- a start that finds a record which doesn't lead on
  stopped_means : (gate : ℕ) → FindsStop bodies gate → (meaning : StoreMeaning) → StandsFor sides meaning → meaning ≡ damaged side gate
  stopped_means gate found (durable e) is =
      let leads = subst (λ bs. Leads no_texts bs e) (the_bodies is.0 is.1 is.2.bodies is.2.stands ∙ found.stop.parts) is.2.leads in
      absurd (no_end no_texts found.stop.before found.stop.first found.stop.behind found.stop.durable e found.single found.stop.leads found.stop.stop leads)
  stopped_means gate found (foreign f) is = absurd (not_foreign f side generation bodies (exactly (no_journal f) is))
  stopped_means gate found (damaged s at) (inl broken) = absurd (not_damaged s at side generation bodies (exactly (no_record s at) broken))
  stopped_means gate found (damaged s at) (inr bad) =
      let parts = sym found.stop.parts ∙ sym (the_bodies s bad.generation bad.bodies bad.stands) ∙ bad.stop.parts in
      let front = one_stop no_texts found.stop.before found.stop.first found.stop.behind bad.stop.before bad.stop.first bad.stop.behind found.stop.durable bad.stop.durable parts
      found.single found.stop.leads found.stop.stop bad.stop.leads bad.stop.stop in
      let gates : at ≡ gate = omega (arith, bad.stop.at, found.stop.at, ap (λ bs. length (open_records bs)) front) in
      let sides_are : s ≡ side = its_side s bad.generation bad.bodies bad.stands bad.stop.before bad.stop.first bad.stop.behind bad.stop.parts in
      λ i. damaged (sides_are i) (gates i)
    where
      its_side : (s : Side) (m : ℕ) (xs : List (List ℕ)) → StandsAt sides s m xs → (before : List (List ℕ)) (first : List ℕ) (behind : List (List ℕ)) → xs ≡ before ++ first ∷ behind → s ≡ side
      its_side s m [] stands [] first behind is = absurd cc
      its_side s m [] stands (b ∷ before) first behind is = absurd cc
      its_side s m (x ∷ xs) stands before first behind is = same_side s side m generation x xs bodies (exactly (meaning_of s m (x ∷ xs)) stands)

  -- a start that is refused by its core
  pub refused_means : (fault : OpenFault) → IsCoreFault bodies side fault → (meaning : StoreMeaning) → StandsFor sides meaning → IsAnswerFor meaning fault
  refused_means (TableFull n) far meaning is = (far.durable, opened_means far.durable far.leads far.single meaning is, far.full)
  refused_means (Damaged s gate) stop meaning is = subst (λ x. meaning ≡ damaged x gate) (sym stop.0) (stopped_means gate stop.1 meaning is)
  refused_means (Foreign s) stop meaning is = absurd stop
  refused_means DiskFault stop meaning is = absurd stop
  refused_means OutOfMemory stop meaning is = tt

-- a start that is refused by the journal
pub journal_means : (sides : Sides) (fault : JournalFault) → ((m : JournalMeaning) → JournalStandsFor sides m → IsJournalAnswerFor m fault) → (meaning : StoreMeaning) → StandsFor sides meaning → IsAnswerFor meaning (opening_fault fault)
journal_means sides (why.Foreign side) exactly (durable e) is = absurd (not_foreign side is.0 is.1 is.2.bodies (sym (exactly (meaning_of is.0 is.1 is.2.bodies) (stands_means sides is.0 is.1 is.2.bodies is.2.stands))))
journal_means sides (why.Foreign side) exactly (foreign f) is = let same : f ≡ side = (let e = exactly (no_journal f) is in cc) in ap foreign same
journal_means sides (why.Foreign side) exactly (damaged s at) (inl broken) = absurd (let e = exactly (no_record s at) broken in cc)
journal_means sides (why.Foreign side) exactly (damaged s at) (inr bad) = absurd (not_foreign side s bad.generation bad.bodies (sym (exactly (meaning_of s bad.generation bad.bodies) (stands_means sides s bad.generation bad.bodies bad.stands))))
journal_means sides (why.Damaged side gate) exactly (durable e) is = absurd (not_damaged side gate is.0 is.1 is.2.bodies (sym (exactly (meaning_of is.0 is.1 is.2.bodies) (stands_means sides is.0 is.1 is.2.bodies is.2.stands))))
journal_means sides (why.Damaged side gate) exactly (foreign f) is = absurd (let e = exactly (no_journal f) is in cc)
journal_means sides (why.Damaged side gate) exactly (damaged s at) (inl broken) =
    let e = exactly (no_record s at) broken in
    let one : s ≡ side = cc in
    let two : at ≡ gate = cc in
    λ i. damaged (one i) (two i)
journal_means sides (why.Damaged side gate) exactly (damaged s at) (inr bad) = absurd (not_damaged side gate s bad.generation bad.bodies (sym (exactly (meaning_of s bad.generation bad.bodies) (stands_means sides s bad.generation bad.bodies bad.stands))))
journal_means sides why.DiskFault exactly meaning is = tt
journal_means sides why.OutOfMemory exactly meaning is = tt

module _ {D : Type 0} (told : Type 0) (bytes_of : D → Sides) (images : D → Sides → Type 0) (faults : D → ℕ) (journal : JournalState D) (core : State) (base : Durable) (history : List (ℕ × Event)) (count : ℕ) where
  pub sound_at_first : (bodies : List (List ℕ)) → base ≡ core.durable → core ≡ opened core.durable → IsOrderly core → IsSmall core.durable → Leads no_texts bodies core.durable → journal.failed ≡ false
      → (told → StandsAt (bytes_of journal.disk) journal.side journal.generation bodies) → (told → (c : Sides) → images journal.disk c → StandsAt c journal.side journal.generation bodies)
      → count ≤ faults journal.disk → history ≡ []
      → IsSoundStore told bytes_of images faults (record { journal = journal; core = core; history = history; kept = None; base = base; count = count }) × (0 ≡ weight history)
  sound_at_first bodies is begun orderly small leads sound reads standing later none = (
    record {
      exchanges = [];
      run = record { events = none; run = begun ∙ ap opened (sym is) };
      small = small;
      orderly = orderly;
      tickets = omega (arith, ap (λ s. s.next) begun);
      light = omega (arith, ap weight none);
      failed = λ e. let both : false ≡ true = sym sound ∙ e in cc;
      sound = λ never. absurd never;
      reads = λ t ok. record { bodies = bodies; stands = reads t; leads = leads };
      stops = λ t c now. (journal.side, journal.generation, record { bodies = bodies; stands = standing t c now; leads = leads });
      counted = later;
      cause = tt;
    },
    ap weight (sym none),
  )
