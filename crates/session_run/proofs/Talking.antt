-- How the dialogue of a user's chair grows by its acts, while others act between.
use Rattle.std.proofs.Common.{◌≡◌, ℕ, List, [], ◌∷◌, ◌++◌, map, refl, sym, ap, ◌∙◌, subst}
use Rattle.std.proofs.lemmas.List.{append-nil, append_assoc, map-append}
use Rattle.sequent_core.specs.declared.Sequent.{Sequent}
use Rattle.sequent_core.specs.declared.Attempt.{Attempt}
use Rattle.core_steps.specs.declared.Event.{Event}
use Rattle.core_steps.specs.declared.Reply.{Reply}
use Rattle.core_steps.specs.State.{State, opened}
use Rattle.core_steps.specs.Run.{Exchange, Runs}
use Rattle.turn_desk.specs.Log.{entries_of, HasSeen}
use Rattle.turn_desk.proofs.Logs.{rest_quiet, seen_then}
use Rattle.session_words.specs.declared.Line.{Line}
use Rattle.store_log.specs.declared.Logged.{Logged}
use Rattle.store_log.specs.declared.StoreBase.{StoreBase}
use Rattle.store_log.specs.History.{exchanges_of, own}
use Rattle.store_log.specs.StoreLog.{chair_of, done, IsLogOf, PerformsInLog}
use Rattle.session_run.specs.Dialogue.{Next, tells, Answering, Dialogue, begins, answers_line, IsPartway}
use Rattle.session_run.specs.Talking.{HasTalked, IsTalking}
use Rattle.session_run.proofs.Owns.{own_last, own_quiet}
use Rattle.session_run.proofs.Runs.{CoreLaws, run_both}
use Rattle.session_run.proofs.Serving.{plain, plain_done, own_quiet_log, exchanges_both, cut_log, same_state}

abbrev chair_first : Logged → List Logged → ℕ
chair_first d [] = d.chair
chair_first d (e ∷ es) = e.chair

abbrev rest_log : List Logged → List Logged
rest_log [] = []
rest_log (e ∷ es) = es

abbrev first_exchange : Exchange → List Exchange → Exchange
first_exchange d [] = d
first_exchange d (x ∷ xs) = x

abbrev rest_exchanges : List Exchange → List Exchange
rest_exchanges [] = []
rest_exchanges (x ∷ xs) = xs

-- the same chairs with the same exchanges
paired : (us vs : List (ℕ × Exchange)) → map done us ≡ map done vs → exchanges_of us ≡ exchanges_of vs → us ≡ vs
paired [] [] e f = refl
paired [] (v ∷ vs) e f = cc
paired (u ∷ us) [] e f = cc
paired (u ∷ us) (v ∷ vs) e f =
    let chair : u.0 ≡ v.0 = ap (chair_first (done u)) e in
    let exchange : u.1 ≡ v.1 = ap (first_exchange u.1) f in
    let tail = paired us vs (ap rest_log e) (ap rest_exchanges f) in
    λ i. (chair i, exchange i) ∷ tail i

module _ (laws : CoreLaws) (base : StoreBase) where
  -- what a chair had done in the log that it had seen is what it has done in a log that goes on from there
  pub hears : (k : ℕ) (seen found : List Logged) (us xs : List (ℕ × Exchange)) (s t : State) → IsLogOf base seen us s → HasSeen chair_of k seen found → plain found ≡ map done xs →
      Runs (opened base.durable) (exchanges_of xs) t → own k xs ≡ own k us
  hears k seen found us xs s t of has is run =
      let rest = has.0.0 in
      let quiet = rest_quiet chair_of k seen rest (ap (entries_of chair_of k) (sym has.0.1) ∙ has.1) in
      let c = cut_log base seen rest xs t (sym (ap plain has.0.1) ∙ is) run in
      let same : map done us ≡ map done c.before = sym (ap plain of.entries ∙ plain_done us) ∙ c.first in
      let one = same_state laws base us c.before s c.at same of.run c.run in
      ap (own k) c.whole ∙ (own_quiet k c.before c.behind (own_quiet_log k rest c.behind c.second quiet) ∙ ap (own k) (sym (paired us c.before same one.0)))

  -- the run after an act
  pub grown : (chair : ℕ) (event : Event) (reply : Reply) (found left : List Logged) (p : PerformsInLog base chair event reply found left) →
      IsLogOf base left (p.xs ++ (chair, record { event = event; reply = reply; entry = p.entry }) ∷ []) p.now
  grown chair event reply found left p =
      let x : Exchange = record { event = event; reply = reply; entry = p.entry } in record {
        entries = p.adds ∙ (ap (λ l. l ++ done (chair, x) ∷ []) p.log.entries ∙ sym (map-append done p.xs ((chair, x) ∷ [])));
        run = subst (λ l. Runs (opened base.durable) l p.now) (sym (exchanges_both p.xs ((chair, x) ∷ [])))
            (run_both (opened base.durable) p.before p.now (exchanges_of p.xs) (x ∷ []) p.log.run (p.now, p.step, refl));
      }

  module _ (fair : Sequent → Attempt → Type 0) (user : ℕ) where
    -- at the beginning nothing was read
    pub talk_begins : HasTalked fair base user [] [] []
    talk_begins = record { xs = []; state = opened base.durable; log = record { entries = refl; run = refl }; dialogue = begins }

    -- a line is begun
    pub line_begins : (seen : List Logged) (lines : List Line) (text : List ℕ) (line : Line) (next : Next) → HasTalked fair base user seen lines text →
        Answering fair line [] next → IsTalking fair base user seen lines text line next
    line_begins seen lines text line next t a = record {
      xs = t.xs;
      state = t.state;
      log = t.log;
      within = record { whole = own user t.xs; cut = []; in_order = sym (append-nil (own user t.xs)); dialogue = t.dialogue; answering = a };
    }

    -- an act of the chair goes on with the answer
    pub line_goes_on : (seen found left : List Logged) (lines : List Line) (text : List ℕ) (line : Line) (next more : Next) (event : Event) (reply : Reply) →
        IsTalking fair base user seen lines text line next → HasSeen chair_of user seen found → PerformsInLog base user event reply found left →
        ((cut : List Exchange) (x : Exchange) → x.event ≡ event → x.reply ≡ reply → Answering fair line cut next → Answering fair line (cut ++ x ∷ []) more) →
        IsTalking fair base user left lines text line more
    line_goes_on seen found left lines text line next more event reply t has p goes =
        let x : Exchange = record { event = event; reply = reply; entry = p.entry } in
        let w = t.within in
        let same : own user p.xs ≡ own user t.xs = hears user seen found t.xs p.xs t.state p.before t.log has (ap plain p.log.entries ∙ plain_done p.xs) p.log.run in
        record {
          xs = p.xs ++ (user, x) ∷ [];
          state = p.now;
          log = grown user event reply found left p;
          within = record {
            whole = w.whole;
            cut = w.cut ++ x ∷ [];
            in_order = own_last user p.xs (user, x) refl ∙ (ap (λ l. l ++ x ∷ []) (same ∙ w.in_order) ∙ append_assoc w.whole w.cut (x ∷ []));
            dialogue = w.dialogue;
            answering = goes w.cut x refl refl w.answering;
          };
        }

    -- a line is answered
    pub line_ends : (seen : List Logged) (lines : List Line) (text more : List ℕ) (line : Line) → IsTalking fair base user seen lines text line (tells more) →
        HasTalked fair base user seen (lines ++ line ∷ []) (text ++ more)
    line_ends seen lines text more line t = record {
      xs = t.xs;
      state = t.state;
      log = t.log;
      dialogue = subst (λ l. Dialogue fair (lines ++ line ∷ []) l (text ++ more)) (sym t.within.in_order) (answers_line t.within.dialogue t.within.answering);
    }

    -- what was so of the log that the chair had seen is so of the last log
    pub talk_stands : (seen log : List Logged) (lines : List Line) (text : List ℕ) (xs : List (ℕ × Exchange)) (t : State) → HasTalked fair base user seen lines text →
        HasSeen chair_of user seen log → plain log ≡ map done xs → Runs (opened base.durable) (exchanges_of xs) t → Dialogue fair lines (own user xs) text
    talk_stands seen log lines text xs t h has is run =
        subst (λ l. Dialogue fair lines l text) (sym (hears user seen log h.xs xs h.state t h.log has is run)) h.dialogue

    pub talking_stands : (seen log : List Logged) (lines : List Line) (text : List ℕ) (line : Line) (next : Next) (xs : List (ℕ × Exchange)) (t : State) → IsTalking fair base user seen lines text line next →
        HasSeen chair_of user seen log → plain log ≡ map done xs → Runs (opened base.durable) (exchanges_of xs) t → IsPartway fair lines line (own user xs) text next
    talking_stands seen log lines text line next xs t h has is run =
        subst (λ l. IsPartway fair lines line l text next) (sym (hears user seen log h.xs xs h.state t h.log has is run)) h.within
