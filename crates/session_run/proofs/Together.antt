-- The one history of the users and the workers, from what each of them knows.
use Rattle.std.proofs.Common.{◌≡◌, ◌≢◌, ◌⊎◌, inl, inr, ℕ, ◌+◌, ◌<◌, ◌≤◌, Bool, false, true, List, [], ◌∷◌, ◌++◌, map, refl, sym, ap, ◌∙◌, subst, arith, cond, eq-eqb}
use Rattle.std.proofs.lemmas.List.{append-nil}
use Rattle.std.proofs.lemmas.List.Elements.{filter-append}
use Rattle.std.specs.Prelude.{◌==◌, Option, Some, None}
use Rattle.std.specs.List.{AllByRecursion}
use mathlib.Core.Logic.{dite}
use Rattle.std.proofs.Math.Decide.{dec_lt}
use Rattle.sequent_core.specs.declared.Sequent.{Sequent}
use Rattle.sequent_core.specs.declared.Ticket.{Ticket}
use Rattle.sequent_core.specs.declared.Attempt.{Attempt}
use Rattle.core_steps.specs.declared.Event.{Event}
use Rattle.core_steps.specs.declared.Event.TheVariants.{Take, Finish}
use Rattle.core_steps.specs.declared.Reply.{Reply}
use Rattle.core_steps.specs.declared.Reply.TheVariants.{Taken}
use Rattle.core_steps.specs.State.{State, opened}
use Rattle.core_steps.specs.Run.{Exchange, Runs}
use Rattle.core_steps.proofs.Alls.{all_first, all_last}
use Rattle.turn_desk.specs.Log.{entries_of}
use Rattle.prover_pool.specs.Work.{EndsMarked}
use Rattle.prover_pool.specs.Shift.{free, stopped, WasServed, Shift, begins as no_shift, others, takes as shift_takes, finishes as shift_finishes, take_stops, finish_stops, Stage}
use Rattle.session_words.specs.declared.Line.{Line}
use Rattle.store_log.specs.declared.Logged.{Logged}
use Rattle.store_log.specs.declared.StoreBase.{StoreBase}
use Rattle.store_log.specs.History.{exchanges_of, own}
use Rattle.store_log.specs.StoreLog.{chair_of, done, marks, store_meaning}
use Rattle.session_run.specs.Workers.{Works, begins as none_yet, finds_nothing, takes, finishes, HaveWorked, HaveFinished}
use Rattle.session_run.specs.Dialogue.{Next, owes, Answering, one_begins, one_answered, auto_begins, auto_takes, auto_refused, auto_finishes, wait_begins, wait_takes, wait_finishes, wait_finds_nothing, wait_is_busy, wait_is_idle, refused, Dialogue, begins, answers_line}
use Rattle.session_run.specs.OneHistory.{IsUsersEvent, IsUsersLine, with_begun, Progress, Reached, Played, IsFailedEvent, next_of_user, take_of_worker, fair_finish, OneHistory}
use Rattle.session_run.proofs.Runs.{CoreLaws}
use Rattle.session_run.proofs.Steps.{is_finish, is_take}
use Rattle.session_run.proofs.Legal.{Hands, hands_both, hands_one, given, GivesByTakes, takes_give, own_all, EndsFairly, ends_fairly, fair_legal}
use Rattle.session_run.proofs.Serving.{Stands, plain, plain_both, plain_done, plain_marks, own_quiet_log, serving, unmarked}

abbrev pub in_hand : Next → Option Ticket
in_hand (owes t) = Some t
in_hand next = None

not_take : (e : Event) → IsUsersEvent e → is_take e ≡ false
not_take (Take name) users = absurd users
not_take e users = refl

not_finish : (e : Event) → IsUsersEvent e → is_finish e ≡ false
not_finish (Finish n a) users = absurd users
not_finish e users = refl

not_given : (r : Reply) → ((t : Ticket) → r ≢ Taken t) → given r ≡ None
not_given (Taken t) other = absurd (other t refl)
not_given r other = refl

module _ (fair : Sequent → Attempt → Type 0) where
  -- what a worker has in hand
  pub works_hands : {ys : List Exchange} {t : Option Ticket} → Works fair ys t → Hands fair None ys t
  works_hands none_yet = refl
  works_hands (finds_nothing {xs = xs} w x e r) = hands_both fair None None None xs (x ∷ []) (works_hands w) (ap is_finish e, sym (ap given r))
  works_hands (takes {xs = xs} w x t e r) = hands_both fair None None (Some t) xs (x ∷ []) (works_hands w) (ap is_finish e, sym (ap given r))
  works_hands (finishes {xs = xs} {t = t} w x a e good) = hands_both fair None (Some t) None xs (x ∷ []) (works_hands w) (a, e, good, refl)

  -- what a user's chair has in hand
  pub answering_hands : {line : Line} {ys : List Exchange} {next : Next} → Answering fair line ys next → IsUsersLine line → GivesByTakes ys → Hands fair None ys (in_hand next)
  answering_hands one_begins users gives = refl
  answering_hands (one_answered {event = e} x is) users gives = (ap is_finish is ∙ not_finish e users, sym (gives.0 (ap is_take is ∙ not_take e users)))
  answering_hands auto_begins users gives = refl
  answering_hands (auto_takes x t is r) users gives = (ap is_finish is, sym (ap given r))
  answering_hands (auto_refused x is other) users gives = (ap is_finish is, sym (not_given x.reply other))
  answering_hands (auto_finishes {xs = xs} {t = t} w x a is good) users gives =
      hands_both fair None (Some t) None xs (x ∷ []) (answering_hands w users (all_first (λ z. is_take z.event ≡ false → given z.reply ≡ None) xs (x ∷ []) gives)) (a, is, good, refl)
  answering_hands wait_begins users gives = refl
  answering_hands (wait_takes {xs = xs} w x t is r) users gives =
      hands_both fair None None (Some t) xs (x ∷ []) (answering_hands w users (all_first (λ z. is_take z.event ≡ false → given z.reply ≡ None) xs (x ∷ []) gives)) (ap is_finish is, sym (ap given r))
  answering_hands (wait_finishes {xs = xs} {t = t} w x a is good) users gives =
      hands_both fair None (Some t) None xs (x ∷ []) (answering_hands w users (all_first (λ z. is_take z.event ≡ false → given z.reply ≡ None) xs (x ∷ []) gives)) (a, is, good, refl)
  answering_hands (wait_finds_nothing {xs = xs} w x is r) users gives =
      hands_both fair None None None xs (x ∷ []) (answering_hands w users (all_first (λ z. is_take z.event ≡ false → given z.reply ≡ None) xs (x ∷ []) gives)) (ap is_finish is, sym (ap given r))
  answering_hands (wait_is_busy {xs = xs} w x is r) users gives =
      hands_both fair None None None xs (x ∷ []) (answering_hands w users (all_first (λ z. is_take z.event ≡ false → given z.reply ≡ None) xs (x ∷ []) gives)) (ap is_finish is, sym (ap given r))
  answering_hands (wait_is_idle {xs = xs} w x is r) users gives =
      hands_both fair None None None xs (x ∷ []) (answering_hands w users (all_first (λ z. is_take z.event ≡ false → given z.reply ≡ None) xs (x ∷ []) gives)) (ap is_finish is, sym (ap given r))
  answering_hands refused users gives = refl

  pub dialogue_hands : {lines : List Line} {ys : List Exchange} {text : List ℕ} → Dialogue fair lines ys text → AllByRecursion IsUsersLine lines → GivesByTakes ys → Hands fair None ys None
  dialogue_hands begins users gives = refl
  dialogue_hands (answers_line {lines = lines} {xs = xs} {ys = ys} {line = line} d a) users gives =
      hands_both fair None None None xs ys
      (dialogue_hands d (all_first IsUsersLine lines (line ∷ []) users) (all_first (λ z. is_take z.event ≡ false → given z.reply ≡ None) xs ys gives))
      (answering_hands a (all_last IsUsersLine lines (line ∷ []) users).0 (all_last (λ z. is_take z.event ≡ false → given z.reply ≡ None) xs ys gives))

-- THE ENTRY AT THE END OF A LOG

module _ {X : Type 0} where
  pub last_one : (xs ys : List X) (a b : X) → xs ++ a ∷ [] ≡ ys ++ b ∷ [] → a ≡ b
  last_one [] [] a b e = cc
  last_one [] (y ∷ []) a b e = cc
  last_one [] (y ∷ z ∷ ys) a b e = cc
  last_one (x ∷ []) [] a b e = cc
  last_one (x ∷ z ∷ xs) [] a b e = cc
  last_one (x ∷ xs) (y ∷ ys) a b e = let rest : xs ++ a ∷ [] ≡ ys ++ b ∷ [] = cc in last_one xs ys a b rest

  -- the end of a list is that of its last part, unless this is empty
  pub last_part : (xs more before : List X) (e : X) → xs ++ more ≡ before ++ e ∷ [] → (more ≡ []) ⊎ ((b : List X) × (more ≡ b ++ e ∷ []))
  last_part [] more before e is = inr (before, is)
  last_part (x ∷ xs) [] before e is = inl refl
  last_part (x ∷ xs) (m ∷ more) [] e is = let wrong : xs ++ m ∷ more ≡ [] = cc in absurd (none xs wrong) where
    none : (ys : List X) → ys ++ m ∷ more ≡ [] → ⊥
    none [] w = cc
    none (y ∷ ys) w = cc
  last_part (x ∷ xs) (m ∷ more) (y ∷ before) e is = let rest : xs ++ m ∷ more ≡ before ++ e ∷ [] = cc in last_part xs (m ∷ more) before e rest

not_empty : {X : Type 0} (xs : List X) (x : X) → xs ++ x ∷ [] ≢ []
not_empty [] x e = cc
not_empty (y ∷ xs) x e = cc

-- a list with an entry of the chair at its end has one
pub not_quiet : (k : ℕ) (b : List Logged) (e : Logged) → e.chair ≡ k → entries_of chair_of k (b ++ e ∷ []) ≡ [] → ⊥
not_quiet k b e chair quiet =
    let mine : entries_of chair_of k (e ∷ []) ≡ e ∷ [] = ap (λ z. cond z (e ∷ []) []) (eq-eqb e.chair k chair) in
    let both : entries_of chair_of k (b ++ e ∷ []) ≡ entries_of chair_of k b ++ e ∷ [] = filter-append (λ z. chair_of z == k) b (e ∷ []) ∙ ap (λ l. entries_of chair_of k b ++ l) mine in
    not_empty (entries_of chair_of k b) e (sym both ∙ quiet)

true_false : (b : Bool) → b ≡ true → b ≡ false → ⊥
true_false b t f = let wrong : true ≡ false = sym t ∙ f in cc

module _ (laws : CoreLaws) (fair : Sequent → Attempt → Type 0) (base : StoreBase) (k : ℕ) where
  -- the act of a worker that met the first fault
  abbrev Fails : Event → List Exchange → Type 0
  Fails event ys = (event ≡ Take None) ⊎ ((t : Ticket) × (a : Attempt) × Works fair ys (Some t) × (event ≡ Finish t.number a) × fair t.sequent a)

  failing : {n : ℕ} {log : List Logged} {st : Stage} → Shift chair_of store_meaning fair base k [] n log st → (before : List Logged) (e : Logged) → log ≡ before ++ e ∷ [] → e.failed ≡ true → e.chair ≡ k →
      (xs : List (ℕ × Exchange)) (s : State) → plain log ≡ map done xs → Runs (opened base.durable) (exchanges_of xs) s → Fails e.event (own k xs)
  failing no_shift before e cut marked chair xs s is run = absurd (not_empty before e (sym cut))
  failing (others {log = log} shift more quiet) before e cut marked chair xs s is run = by (last_part log more before e cut) (λ c i. failing shift before e c marked chair xs s i run) where
    by : (more ≡ []) ⊎ ((b : List Logged) × (more ≡ b ++ e ∷ [])) → (log ≡ before ++ e ∷ [] → plain log ≡ map done xs → Fails e.event (own k xs)) → Fails e.event (own k xs)
    by (inl none) on = let same : log ≡ log ++ more = sym (append-nil log) ∙ ap (λ l. log ++ l) (sym none) in on (same ∙ cut) (ap plain same ∙ is)
    by (inr (b, ends)) on = absurd (not_quiet k b e chair (ap (entries_of chair_of k) (sym ends) ∙ quiet))
  failing (shift_takes {log = log} shift may e0 t chair0 means) before e cut marked chair xs s is run =
      absurd (true_false e.failed marked (ap (λ (z : Logged). z.failed) (sym (last_one log before e0 e cut)) ∙ means.0))
  failing (shift_finishes {log = log} shift e0 a chair0 means good) before e cut marked chair xs s is run =
      absurd (true_false e.failed marked (ap (λ (z : Logged). z.failed) (sym (last_one log before e0 e cut)) ∙ means.0))
  failing (take_stops {log = log} shift may after (inl same, ends)) before e cut marked chair xs s is run =
      failing shift before e (sym same ∙ cut) marked chair xs s (sym (ap plain same) ∙ is) run
  failing (take_stops {log = log} shift may after (inr (e0, chair0, adds, both), ends)) before e cut marked chair xs s is run =
      inl (ap (λ (z : Logged). z.event) (sym (last_one log before e0 e (sym adds ∙ cut))) ∙ both.1)
  failing (finish_stops {log = log} shift after a (inl same, ends) good) before e cut marked chair xs s is run =
      failing shift before e (sym same ∙ cut) marked chair xs s (sym (ap plain same) ∙ is) run
  failing (finish_stops {log = log} {t = t} shift after a (inr (e0, chair0, adds, both), ends) good) before e cut marked chair xs s is run =
      inr (t, a, serving laws fair base k shift xs s (unmarked log after e0 adds both.0 ∙ is) run, ap (λ (z : Logged). z.event) (sym (last_one log before e0 e (sym adds ∙ cut))) ∙ both.1, good)

module _ (fair : Sequent → Attempt → Type 0) where
  -- what a user's chair has in hand
  reached_hands : (lines : List Line) (begun : Option (Line × Next)) (ys : List Exchange) (text : List ℕ) → Reached fair lines begun ys text → AllByRecursion IsUsersLine (with_begun lines begun) → GivesByTakes ys →
      (t : Option Ticket) × Hands fair None ys t
  reached_hands lines None ys text d users gives = (None, dialogue_hands fair d users gives)
  reached_hands lines (Some begun) ys text w users gives =
      let cut_gives : GivesByTakes (w.whole ++ w.cut) = subst GivesByTakes w.in_order gives in (
        in_hand begun.1,
        subst (λ l. Hands fair None l (in_hand begun.1)) (sym w.in_order) (hands_both fair None None (in_hand begun.1) w.whole w.cut
            (dialogue_hands fair w.dialogue (all_first IsUsersLine lines (begun.0 ∷ []) users) (all_first (λ z. is_take z.event ≡ false → given z.reply ≡ None) w.whole w.cut cut_gives))
            (answering_hands fair w.answering (all_last IsUsersLine lines (begun.0 ∷ []) users).0 (all_last (λ z. is_take z.event ≡ false → given z.reply ≡ None) w.whole w.cut cut_gives))),
      )

  module _ (laws : CoreLaws) (base : StoreBase) (log : List Logged) (xs : List (ℕ × Exchange)) (mark : Option (ℕ × Event)) (s : State) (users workers : ℕ) (progress : ℕ → Progress)
      (p : Played fair base log xs mark s users workers progress) where
    plain_is : plain log ≡ map done xs
    plain_is = ap plain p.store.entries ∙ (plain_both (map done xs) (marks mark) ∙ (ap (λ l. plain (map done xs) ++ l) (plain_marks mark) ∙ (append-nil (plain (map done xs)) ∙ plain_done xs)))

    stands : (k : ℕ) (w : WasServed chair_of store_meaning fair base k [] log) → Stands laws fair base k w.stage (own k xs)
    stands k w = serving laws fair base k w.shift xs s plain_is p.store.run

    free_works : (k : ℕ) (w : WasServed chair_of store_meaning fair base k [] log) → w.stage ≡ free → Works fair (own k xs) None × (own k xs ≢ [])
    free_works k w is = subst (λ z. Stands laws fair base k z (own k xs)) is (stands k w)

    any_works : (k : ℕ) (w : WasServed chair_of store_meaning fair base k [] log) → (t : Option Ticket) × Works fair (own k xs) t
    any_works k w = by w.over where
      by : (w.stage ≡ free) ⊎ ((w.stage ≡ stopped) × EndsMarked store_meaning log) → (t : Option Ticket) × Works fair (own k xs) t
      by (inl is) = (None, (free_works k w is).0)
      by (inr (is, ends)) = subst (λ z. Stands laws fair base k z (own k xs)) is (stands k w)

    -- without a mark the log doesn't end in one
    unmarked_log : (ys : List (ℕ × Exchange)) (before : List Logged) (e : Logged) → map done ys ≡ before ++ e ∷ [] → e.failed ≡ false
    unmarked_log [] before e is = absurd (not_empty before e (sym is))
    unmarked_log (y ∷ ys) [] e is = let same : done y ≡ e = cc in ap (λ (z : Logged). z.failed) (sym same)
    unmarked_log (y ∷ ys) (b ∷ before) e is = let rest : map done ys ≡ before ++ e ∷ [] = cc in unmarked_log ys before e rest

    open_log : mark ≡ None → EndsMarked store_meaning log → ⊥
    open_log none (before, e, ends, marked) =
        let entries : map done xs ≡ before ++ e ∷ [] = sym (append-nil (map done xs)) ∙ (ap (λ m. map done xs ++ marks m) (sym none) ∙ (sym p.store.entries ∙ ends)) in
        true_false e.failed marked (unmarked_log xs before e entries)

    unmarked_free : (k : ℕ) (w : WasServed chair_of store_meaning fair base k [] log) → mark ≡ None → Works fair (own k xs) None × (own k xs ≢ [])
    unmarked_free k w none = by w.over where
      by : (w.stage ≡ free) ⊎ ((w.stage ≡ stopped) × EndsMarked store_meaning log) → Works fair (own k xs) None × (own k xs ≢ [])
      by (inl is) = free_works k w is
      by (inr (is, ends)) = absurd (open_log none ends)

    none_beyond : (k : ℕ) → users + workers ≤ k → own k xs ≡ []
    none_beyond k high = own_quiet_log k log xs plain_is (p.unmade k high)

    -- the workers did nothing but what workers do
    have_worked : HaveWorked fair users workers xs
    have_worked = record { each = λ k low high. any_works k (p.served k low high); others = none_beyond }

    -- where no fault is kept, each took at least once and finished what it took
    have_finished : mark ≡ None → HaveFinished fair users workers xs
    have_finished none = record {
      each = λ k low high. (unmarked_free k (p.served k low high) none).0;
      some = λ k low high. (unmarked_free k (p.served k low high) none).1;
    }

    gives : GivesByTakes (exchanges_of xs)
    gives = takes_give (exchanges_of xs) (opened base.durable) s p.store.run

    mine : (user : ℕ) → user < users → (t : Option Ticket) × Hands fair None (own user xs) t
    mine user is =
        let c = p.each user is in let q = progress user in
        reached_hands q.lines q.begun (own user xs) q.text c.reached c.users (own_all (λ z. is_take z.event ≡ false → given z.reply ≡ None) user xs gives)

    each_hands : (k : ℕ) → (t : Option Ticket) × Hands fair None (own k xs) t
    each_hands k = dite (dec_lt k users) (λ is. mine k is) (λ other. let above : users ≤ k = omega (arith, other) in by above)
      where
        by : users ≤ k → (t : Option Ticket) × Hands fair None (own k xs) t
        by above = dite (dec_lt k (users + workers))
            (λ low. let w = any_works k (p.served k above low) in (w.0, works_hands fair w.1))
            (λ high. let beyond : users + workers ≤ k = omega (arith, high) in (None, subst (λ l. Hands fair None l None) (sym (none_beyond k beyond)) refl))

    fairly : EndsFairly fair (opened base.durable) s (exchanges_of xs) (λ k. (each_hands k).0)
    fairly = ends_fairly fair laws xs (opened base.durable) s (λ k. (each_hands k).0) refl p.store.run (λ k. (each_hands k).1)

    -- the mark, at the end of the log
    marked_log : (chair : ℕ) (event : Event) → mark ≡ Some (chair, event) → log ≡ map done xs ++ record { chair = chair; event = event; failed = true } ∷ []
    marked_log chair event is = p.store.entries ∙ ap (λ m. map done xs ++ marks m) is

    failed_worker : (chair : ℕ) (event : Event) → mark ≡ Some (chair, event) → Fails laws fair base chair event (own chair xs) → IsFailedEvent fair users (λ user. (progress user).begun) s event
    failed_worker chair event is (inl take) = take_of_worker take
    failed_worker chair event is (inr (t, a, works, finish, good)) =
        fair_finish t a (fairly.out chair t (hands_one fair None (each_hands chair).0 (Some t) (own chair xs) (each_hands chair).1 (works_hands fair works))) finish good

    failed_event : (chair : ℕ) (event : Event) → mark ≡ Some (chair, event) → IsFailedEvent fair users (λ user. (progress user).begun) s event
    failed_event chair event is = dite (dec_lt chair users)
        (λ low. next_of_user chair low ((p.each chair low).own_mark event is))
        (λ other. let above : users ≤ chair = omega (arith, other) in by above)
      where
        by : users ≤ chair → IsFailedEvent fair users (λ user. (progress user).begun) s event
        by above = dite (dec_lt chair (users + workers))
            (λ low. failed_worker chair event is (failing laws fair base chair (p.served chair above low).shift (map done xs) (record { chair = chair; event = event; failed = true })
            (marked_log chair event is) refl refl xs s plain_is p.store.run))
            (λ high. let beyond : users + workers ≤ chair = omega (arith, high) in absurd (not_quiet chair (map done xs) (record { chair = chair; event = event; failed = true }) refl
            (ap (entries_of chair_of chair) (sym (marked_log chair event is)) ∙ p.unmade chair beyond)))

pub one_history : CoreLaws → (fair : Sequent → Attempt → Type 0) → OneHistory fair
one_history laws fair base log xs mark s users workers progress p = record {
  legal = fair_legal fair (exchanges_of xs) (opened base.durable) s (fairly fair laws base log xs mark s users workers progress p).fair_run;
  fair_run = (fairly fair laws base log xs mark s users workers progress p).fair_run;
  worked = have_worked fair laws base log xs mark s users workers progress p;
  finished = have_finished fair laws base log xs mark s users workers progress p;
  failed = failed_event fair laws base log xs mark s users workers progress p;
}
