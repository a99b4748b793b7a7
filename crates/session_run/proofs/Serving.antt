-- What the log says of a worker: from the shift of its chair to its exchanges.
use Rattle.std.proofs.Common.{◌≡◌, ◌≢◌, inl, inr, ℕ, Bool, true, false, not, cond, List, [], ◌∷◌, ◌++◌, map, refl, sym, ap, ◌∙◌, subst, ne_eqb, eq-eqb}
use Rattle.std.proofs.lemmas.List.{append-nil, map-append}
use Rattle.std.proofs.lemmas.List.Elements.{filter-append}
use Rattle.std.specs.Prelude.{Option, Some, None}
use Rattle.std.specs.List.{filter}
use mathlib.Core.Logic.{dite}
use native.Mathlib.Decide.{ℕ_discrete}
use Rattle.sequent_core.specs.declared.Sequent.{Sequent}
use Rattle.sequent_core.specs.declared.Ticket.{Ticket}
use Rattle.sequent_core.specs.declared.Attempt.{Attempt}
use Rattle.core_steps.specs.declared.Event.{Event}
use Rattle.core_steps.specs.declared.Event.TheVariants.{Take, Finish}
use Rattle.core_steps.specs.declared.Reply.{Reply}
use Rattle.core_steps.specs.State.{State, opened}
use Rattle.core_steps.specs.Step.{Does, take_reply}
use Rattle.core_steps.specs.Run.{Exchange, IsStepOf, Runs}
use Rattle.turn_desk.specs.Log.{entries_of}
use Rattle.prover_pool.specs.Shift.{Stage, fresh, free, owes, stopped, after_take, MayTake, Shift, begins, others, takes, finishes, take_stops, finish_stops}
use Rattle.store_log.specs.declared.Logged.{Logged}
use Rattle.store_log.specs.declared.StoreBase.{StoreBase}
use Rattle.core_steps.specs.Laws.{IsOrderly}
use Rattle.store_log.specs.History.{exchanges_of, own}
use Rattle.store_log.specs.StoreLog.{chair_of, done, marks, AnswersAt, store_meaning}
use Rattle.session_run.specs.Workers.{Works, begins as none_yet, finds_nothing, takes as takes_one, finishes as finishes_it}
use Rattle.session_run.proofs.Owns.{own_other, own_last, own_quiet, map_cut}
use Rattle.session_run.proofs.Runs.{CoreLaws, run_cut, opened_orderly, orderly_run, one_run}

-- ENTRIES THAT ARE NO MARKS

abbrev pub plain : List Logged → List Logged
plain = filter (λ e. not e.failed)

pub plain_both : (xs ys : List Logged) → plain (xs ++ ys) ≡ plain xs ++ plain ys
plain_both xs ys = filter-append (λ e. not e.failed) xs ys

pub plain_one : (e : Logged) → e.failed ≡ false → plain (e ∷ []) ≡ e ∷ []
plain_one e is = ap (λ b. cond (not b) (e ∷ []) []) is

pub plain_mark : (e : Logged) → e.failed ≡ true → plain (e ∷ []) ≡ []
plain_mark e is = ap (λ b. cond (not b) (e ∷ []) []) is

pub plain_done : (xs : List (ℕ × Exchange)) → plain (map done xs) ≡ map done xs
plain_done [] = refl
plain_done (x ∷ xs) = ap (λ l. done x ∷ l) (plain_done xs)

pub plain_marks : (m : Option (ℕ × Event)) → plain (marks m) ≡ []
plain_marks None = refl
plain_marks (Some act) = refl

mine : (k : ℕ) (e : Logged) (es : List Logged) → e.chair ≡ k → entries_of chair_of k (e ∷ es) ≡ e ∷ entries_of chair_of k es
mine k e es is = ap (λ b. cond b (e ∷ entries_of chair_of k es) (entries_of chair_of k es)) (eq-eqb e.chair k is)

theirs : (k : ℕ) (e : Logged) (es : List Logged) → e.chair ≢ k → entries_of chair_of k (e ∷ es) ≡ entries_of chair_of k es
theirs k e es is = ap (λ b. cond b (e ∷ entries_of chair_of k es) (entries_of chair_of k es)) (ne_eqb e.chair k is)

-- a list without entries of the chair has none that are no marks
quiet_plain : (k : ℕ) (es : List Logged) → entries_of chair_of k es ≡ [] → entries_of chair_of k (plain es) ≡ []
quiet_plain k [] quiet = refl
quiet_plain k (e ∷ es) quiet = dite (ℕ_discrete e.chair k)
    (λ is. let wrong : e ∷ entries_of chair_of k es ≡ [] = sym (mine k e es is) ∙ quiet in absurd cc)
    (λ other. by e.failed (quiet_plain k es (sym (theirs k e es other) ∙ quiet)) other) where
      by : (b : Bool) → entries_of chair_of k (plain es) ≡ [] → e.chair ≢ k → entries_of chair_of k (cond (not b) (e ∷ plain es) (plain es)) ≡ []
      by true rest other = rest
      by false rest other = theirs k e (plain es) other ∙ rest

pub own_none : (k : ℕ) (xs : List (ℕ × Exchange)) → entries_of chair_of k (map done xs) ≡ [] → own k xs ≡ []
own_none k [] quiet = refl
own_none k (x ∷ xs) quiet = dite (ℕ_discrete x.0 k)
    (λ is. let wrong : done x ∷ entries_of chair_of k (map done xs) ≡ [] = sym (mine k (done x) (map done xs) is) ∙ quiet in absurd cc)
    (λ other. own_other k x xs other ∙ own_none k xs (sym (theirs k (done x) (map done xs) other) ∙ quiet))

pub own_quiet_log : (k : ℕ) (es : List Logged) (xs : List (ℕ × Exchange)) → plain es ≡ map done xs → entries_of chair_of k es ≡ [] → own k xs ≡ []
own_quiet_log k es xs is quiet = own_none k xs (sym (ap (entries_of chair_of k) is) ∙ quiet_plain k es quiet)

one_map : (e : Logged) (bs : List (ℕ × Exchange)) → e ∷ [] ≡ map done bs → (x : ℕ × Exchange) × (bs ≡ x ∷ []) × (e ≡ done x)
one_map e [] is = cc
one_map e (x ∷ []) is = (x, refl, cc)
one_map e (x ∷ y ∷ bs) is = cc

pub events_done : (xs : List (ℕ × Exchange)) → map (λ (e : Logged). e.event) (map done xs) ≡ map (λ (x : Exchange). x.event) (exchanges_of xs)
events_done [] = refl
events_done (x ∷ xs) = ap (λ l. x.1.event ∷ l) (events_done xs)

pub exchanges_both : (xs ys : List (ℕ × Exchange)) → exchanges_of (xs ++ ys) ≡ exchanges_of xs ++ exchanges_of ys
exchanges_both xs ys = map-append (λ x. x.1) xs ys

-- a mark adds nothing
pub unmarked : (log after : List Logged) (e : Logged) → after ≡ log ++ e ∷ [] → e.failed ≡ true → plain log ≡ plain after
unmarked log after e adds marked = sym (ap plain adds ∙ (plain_both log (e ∷ []) ∙ (ap (λ l. plain log ++ l) (plain_mark e marked) ∙ append-nil (plain log))))

-- THE CUT OF A LOG

-- the log cut before its last part, with the run up to there
pub record Cut (base : StoreBase) (log last : List Logged) (xs : List (ℕ × Exchange)) (s : State) : Type 0 where
  pub before : List (ℕ × Exchange)
  pub behind : List (ℕ × Exchange)
  pub whole : xs ≡ before ++ behind
  pub first : plain log ≡ map done before
  pub second : plain last ≡ map done behind
  pub at : State
  pub run : Runs (opened base.durable) (exchanges_of before) at
  pub rest : Runs at (exchanges_of behind) s

pub cut_log : (base : StoreBase) (log last : List Logged) (xs : List (ℕ × Exchange)) (s : State) → plain (log ++ last) ≡ map done xs → Runs (opened base.durable) (exchanges_of xs) s → Cut base log last xs s
cut_log base log last xs s is run =
    let (us, bs, whole, first, second) = map_cut done xs (plain log) (plain last) (sym (plain_both log last) ∙ is) in
    let r = run_cut (opened base.durable) s (exchanges_of us) (exchanges_of bs) (subst (λ l. Runs (opened base.durable) l s) (ap exchanges_of whole ∙ exchanges_both us bs) run) in
    record { before = us; behind = bs; whole = whole; first = first; second = second; at = r.0; run = r.1; rest = r.2 }

-- the same, where the last part is one entry
pub record CutOne (base : StoreBase) (log : List Logged) (e : Logged) (xs : List (ℕ × Exchange)) (s : State) : Type 0 where
  pub before : List (ℕ × Exchange)
  pub x : ℕ × Exchange
  pub whole : xs ≡ before ++ x ∷ []
  pub first : plain log ≡ map done before
  pub is : e ≡ done x
  pub at : State
  pub now : State
  pub run : Runs (opened base.durable) (exchanges_of before) at
  pub step : IsStepOf at x.1 now

pub cut_one : (base : StoreBase) (log : List Logged) (e : Logged) (xs : List (ℕ × Exchange)) (s : State) → e.failed ≡ false → plain (log ++ e ∷ []) ≡ map done xs → Runs (opened base.durable) (exchanges_of xs) s → CutOne base log e xs s
cut_one base log e xs s counts is run =
    let c = cut_log base log (e ∷ []) xs s is run in
    let (x, one, same) = one_map e c.behind (sym (plain_one e counts) ∙ c.second) in
    let r = subst (λ l. Runs c.at (exchanges_of l) s) one c.rest in
    record { before = c.before; x = x; whole = c.whole ∙ ap (λ l. c.before ++ l) one; first = c.first; is = same; at = c.at; now = r.0; run = c.run; step = r.1 }

module _ (laws : CoreLaws) where
  -- the same log has one state
  pub same_state : (base : StoreBase) (xs ys : List (ℕ × Exchange)) (s t : State) → map done xs ≡ map done ys → Runs (opened base.durable) (exchanges_of xs) s → Runs (opened base.durable) (exchanges_of ys) t → (exchanges_of xs ≡ exchanges_of ys) × (s ≡ t)
  same_state base xs ys s t same first second =
      one_run laws (opened base.durable) s t (exchanges_of xs) (exchanges_of ys) (opened_orderly base.durable)
      (sym (events_done xs) ∙ (ap (map (λ (e : Logged). e.event)) same ∙ events_done ys)) first second

  -- what the store answered at a place is the reply that the run has there
  pub reply_at : (base : StoreBase) (log : List Logged) (e : Logged) (xs : List (ℕ × Exchange)) (s : State) (event : Event) (reply : Reply) → (c : CutOne base log e xs s) → e.event ≡ event → AnswersAt base log event reply → c.x.1.reply ≡ reply
  reply_at base log e xs s event reply c is (ys, m, new, of, (n, does)) =
      let same = same_state base c.before ys c.at m (sym c.first ∙ (ap plain of.entries ∙ plain_done ys)) c.run of.run in
      let ev : c.x.1.event ≡ event = sym (ap (λ (z : Logged). z.event) c.is) ∙ is in
      (laws.one c.at event c.x.1.reply reply c.x.1.entry n c.now new (orderly_at c) (subst (λ z. Does c.at z c.x.1.reply c.x.1.entry c.now) ev c.step) (subst (λ z. Does z event reply n new) (sym same.1) does)).0
    where
      orderly_at : (c : CutOne base log e xs s) → IsOrderly c.at
      orderly_at c = orderly_run laws (opened base.durable) c.at (exchanges_of c.before) c.run (opened_orderly base.durable)

  module _ (fair : Sequent → Attempt → Type 0) (base : StoreBase) (k : ℕ) where
    -- what a stage says of the exchanges of the chair
    abbrev pub Stands : Stage → List Exchange → Type 0
    Stands fresh ys = ys ≡ []
    Stands free ys = Works fair ys None × (ys ≢ [])
    Stands (owes t) ys = Works fair ys (Some t)
    Stands stopped ys = (t : Option Ticket) × Works fair ys t

    ready : (st : Stage) (ys : List Exchange) → MayTake st → Stands st ys → Works fair ys None
    ready fresh ys may is = subst (λ l. Works fair l None) (sym is) none_yet
    ready free ys may is = is.0
    ready (owes t) ys may is = absurd may
    ready stopped ys may is = absurd may

    not_empty : (ys : List Exchange) (x : Exchange) → ys ++ x ∷ [] ≢ []
    not_empty [] x e = cc
    not_empty (y ∷ ys) x e = cc

    took : (ys : List Exchange) (x : Exchange) (t : Option Ticket) → Works fair ys None → x.event ≡ Take None → x.reply ≡ take_reply t → Stands (after_take t) (ys ++ x ∷ [])
    took ys x None w e r = (finds_nothing w x e r, not_empty ys x)
    took ys x (Some t) w e r = takes_one w x t e r

    -- the last exchange is one of the chair
    own_cut : (log : List Logged) (e : Logged) (xs : List (ℕ × Exchange)) (s : State) (c : CutOne base log e xs s) → e.chair ≡ k → own k xs ≡ own k c.before ++ c.x.1 ∷ []
    own_cut log e xs s c chair = ap (own k) c.whole ∙ own_last k c.before c.x (sym (ap (λ (z : Logged). z.chair) c.is) ∙ chair)

    pub serving : {n : ℕ} {log : List Logged} {st : Stage} → Shift chair_of store_meaning fair base k [] n log st → (xs : List (ℕ × Exchange)) (s : State) →
        plain log ≡ map done xs → Runs (opened base.durable) (exchanges_of xs) s → Stands st (own k xs)
    serving begins [] s is run = refl
    serving begins (x ∷ xs) s is run = cc
    serving {st = st} (others {log = log} shift more quiet) xs s is run =
        let c = cut_log base log more xs s is run in
        let same : own k xs ≡ own k c.before = ap (own k) c.whole ∙ own_quiet k c.before c.behind (own_quiet_log k more c.behind c.second quiet) in
        subst (Stands st) (sym same) (serving shift c.before c.at c.first c.run)
    serving (takes {log = log} {s = st} shift may e t chair means) xs s is run =
        let c = cut_one base log e xs s means.0 is run in
        let r = reply_at base log e xs s (Take None) (take_reply t) c means.1 means.2 in
        let ev : c.x.1.event ≡ Take None = sym (ap (λ (z : Logged). z.event) c.is) ∙ means.1 in
        subst (Stands (after_take t)) (sym (own_cut log e xs s c chair)) (took (own k c.before) c.x.1 t (ready st (own k c.before) may (serving shift c.before c.at c.first c.run)) ev r)
    serving (finishes {log = log} {t = t} shift e a chair means good) xs s is run =
        let c = cut_one base log e xs s means.0 is run in
        let ev : c.x.1.event ≡ Finish t.number a = sym (ap (λ (z : Logged). z.event) c.is) ∙ means.1 in
        subst (Stands free) (sym (own_cut log e xs s c chair)) (finishes_it (serving shift c.before c.at c.first c.run) c.x.1 a ev good, not_empty (own k c.before) c.x.1)
    serving (take_stops {log = log} {s = st} shift may after (inl same, ends)) xs s is run =
        (None, ready st (own k xs) may (serving shift xs s (sym (ap plain same) ∙ is) run))
    serving (take_stops {log = log} {s = st} shift may after (inr (e, chair, adds, both), ends)) xs s is run =
        (None, ready st (own k xs) may (serving shift xs s (unmarked log after e adds both.0 ∙ is) run))
    serving (finish_stops {log = log} {t = t} shift after a (inl same, ends) good) xs s is run =
        (Some t, serving shift xs s (sym (ap plain same) ∙ is) run)
    serving (finish_stops {log = log} {t = t} shift after a (inr (e, chair, adds, both), ends) good) xs s is run =
        (Some t, serving shift xs s (unmarked log after e adds both.0 ∙ is) run)
