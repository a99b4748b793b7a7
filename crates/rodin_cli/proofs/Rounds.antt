-- What the rounds of `demo` did, and what comes of it.
use Rattle.std.proofs.Common.{◌≡◌, ◌≢◌, ◌∙◌, ◌⊎◌, inl, inr, sym, ap, subst, refl, ℕ, ◌≤◌, List, [], ◌∷◌, ◌++◌, length, not, append_assoc, arith}
use Rattle.std.specs.Prelude.{Option, Result, Ok, Err, OnOk, IfErr, codes}
use Rattle.std.specs.Fmt.{decimal}
use Rattle.std.specs.List.{AllByRecursion}
use Rattle.std.proofs.lemmas.List.Filters.{length-filter_both}
use Rattle.sequent_core.specs.declared.Sequent.{Sequent}
use Rattle.sequent_core.specs.declared.Attempt.{Attempt}
use Rattle.proof_entries.specs.declared.Origin.{Origin}
use Rattle.core_steps.specs.declared.Status.{Status}
use Rattle.core_steps.specs.declared.Event.TheVariants.{Ask}
use Rattle.core_steps.specs.declared.Reply.TheVariants.{Statuses}
use Rattle.core_steps.specs.declared.Question.{Question}
use Rattle.core_steps.specs.declared.Question.TheVariants.{Statuses as AskStatuses}
use Rattle.core_steps.specs.Laws.{EntersAll, DecidesSequents}
use Rattle.core_steps.specs.State.{State, opened, no_texts}
use Rattle.core_steps.specs.Run.{Exchange, Runs, IsLegal}
use Rattle.core_steps.proofs.Alls.{all_both}
use Rattle.check_input.specs.Inputs.{Component}
use Rattle.rodin_cli.specs.declared.demo.Counted.{Counted}
use Rattle.rodin_cli.specs.declared.demo.Round.{Round}
use Rattle.rodin_cli.specs.declared.demo.Round.TheVariants.{Models, Edit}
use Rattle.rodin_cli.specs.declared.demo.Stop.{Stop}
use Rattle.rodin_cli.specs.declared.demo.Stop.TheVariants.{Full, Cut, OutOfMemory}
use Rattle.rodin_cli.specs.declared.outcome.Part.{Part}
use Rattle.rodin_cli.specs.declared.round.Numbers.{Numbers}
use Rattle.rodin_cli.specs.declared.session.Session.{Session}
use Rattle.session_run.specs.Completeness.{LeavesNothingSure}
use Rattle.rodin_cli.specs.Demo.{is_discharged, discharged_in, edited_in, line_after, lasting, Counts, ComesAfter}
use Rattle.rodin_cli.specs.Demo.{Demonstrates, shows_both, shows_cut, shows_full, shows_front, IsUnfailedDemoStatus, demo_whole, demo_too_large, demo_without_memory}
use Rattle.rodin_cli.specs.Check.{HasNoHistory, LeadsToPart}
use Rattle.rodin_cli.specs.Private.{Reaches, FinishesRun, LineStops, RoundShows, RoundStops, ReachesBoth, ReachesStop, ReportsStop, IsUntouched, stop_status}
use Rattle.rodin_cli.specs.Script.{IsFullScript, IsRound, IsRoundFront}
use Rattle.rodin_cli.specs.PrivateSession.{Extends, IsUnchanged}
use Rattle.session_streams.specs.Streams.{Writing, Writes, WritesCut, SinkFailed, writing}
use Rattle.rodin_cli.proofs.Answering.{leads}
use Rattle.rodin_cli.proofs.Completing.{AtRest}
use Rattle.rodin_cli.proofs.Edits.{then_unchanged}
use Rattle.rodin_cli.proofs.Folding.{run_folds}
use Rattle.rodin_cli.proofs.Known.{Appends-kept, Appends-then_kept, Appends-both, Writes-then_cut, Writes-then_last}
use Rattle.rodin_cli.proofs.Legal.{IsSimple, IsLegalExchange, Led, opened_rests, front_legal, full_legal, round_leads}
use Rattle.rodin_cli.proofs.Sessions.{both, asked_round, front_of_round, front_without_asks}

abbrev one_ask : List Question
one_ask = AskStatuses ∷ []

simple : AllByRecursion IsSimple one_ask
simple = (inr refl, tt)

-- WHAT A RESULT SAYS

pub ok_so : {T E : Type 0} (r : Result T E) (A B : Type 0) → (A → B) → OnOk r A → OnOk r B
ok_so (Ok x) A B f a = f a
ok_so (Err e) A B f a = tt

pub err_so : {T E : Type 0} (r : Result T E) (P Q : E → Type 0) → ((e : E) → P e → Q e) → IfErr r P → IfErr r Q
err_so (Ok x) P Q f p = tt
err_so (Err e) P Q f p = f e p

-- a status is one number
pub not_other : (status a b : ℕ) → status ≡ a → status ≡ b → a ≢ b → ⊥
not_other status a b p q differ = differ (sym p ∙ q)

-- LINES

joined : (a b c d e f g h i j k : List ℕ) → a ++ (b ++ (c ++ (d ++ (e ++ (f ++ (g ++ (h ++ (i ++ (j ++ k))))))))) ≡ a ++ b ++ c ++ d ++ e ++ f ++ g ++ h ++ i ++ j ++ k
joined a b c d e f g h i j k = simp append_assoc

joined_five : (a b c d e : List ℕ) → a ++ (b ++ (c ++ (d ++ e))) ≡ a ++ b ++ c ++ d ++ e
joined_five a b c d e = simp append_assoc

pub first_line_is : (text : List ℕ) (round : Round) (seed n : ℕ) (k : Counted) → round ≡ Models seed n →
    text ≡ codes "demo " ++ (decimal seed ++ (codes " " ++ (decimal n ++ (codes ": " ++ (decimal k.components ++ (codes " components, " ++ (decimal k.obligations ++ (codes " obligations, "
    ++ (decimal k.discharged ++ codes " discharged\n"))))))))) → text ≡ line_after round k
first_line_is text round seed n k is text_is =
    subst (λ r. text ≡ line_after r k) (sym is)
    (text_is ∙ joined (codes "demo ") (decimal seed) (codes " ") (decimal n) (codes ": ") (decimal k.components) (codes " components, ") (decimal k.obligations) (codes " obligations, ")
    (decimal k.discharged) (codes " discharged\n"))

pub second_line_is : (text : List ℕ) (round : Round) (n : ℕ) (k : Counted) → round ≡ Edit n →
    text ≡ codes "after one edit: " ++ (decimal k.obligations ++ (codes " obligations, " ++ (decimal k.discharged ++ codes " discharged\n"))) → text ≡ line_after round k
second_line_is text round n k is text_is =
    subst (λ r. text ≡ line_after r k) (sym is)
    (text_is ∙ joined_five (codes "after one edit: ") (decimal k.obligations) (codes " obligations, ") (decimal k.discharged) (codes " discharged\n"))

-- statuses that are shown discharged are no more than those that are shown
pub few_discharged : (shown : List (List ℕ × Status × Option Origin)) → discharged_in shown ≤ length shown
few_discharged shown = let both = length-filter_both (λ x. is_discharged x.1) (λ x. not (is_discharged x.1)) (λ x. refl) shown in omega (arith, both)

-- A ROUND, BY WHAT IT EDITS

pub full_round : (round : Round) (parts : List Component) → parts ≡ edited_in round → (a b : Session) → (exchanges : List Exchange) × IsFullScript parts exchanges × Extends a exchanges b →
    (exchanges : List Exchange) × IsFullScript (edited_in round) exchanges × Extends a exchanges b
full_round round parts made a b (exchanges, full, p) = (exchanges, subst (λ ps. IsFullScript ps exchanges) made full, p)

module _ (answers : Sequent → Attempt → Type 0) (sure : Sequent → Type 0) (round : Round) (parts : List Component) (made : parts ≡ edited_in round) (a b : Session) where
  pub front_round : (exchanges : List Exchange) × IsRoundFront answers sure parts [] exchanges × Extends a exchanges b →
      (exchanges : List Exchange) × IsRoundFront answers sure (edited_in round) one_ask exchanges × Extends a exchanges b
  front_round (exchanges, front, p) =
      (exchanges, subst (λ ps. IsRoundFront answers sure ps one_ask exchanges) made (front_without_asks answers sure parts one_ask exchanges front), p)

  module _ (c : Session) (numbers : Numbers) (worked : (exchanges : List Exchange) × IsRound answers sure parts numbers [] exchanges × Extends a exchanges b) where
    pub asked_front : IsUnchanged b c → (exchanges : List Exchange) × IsRoundFront answers sure (edited_in round) one_ask exchanges × Extends a exchanges c
    asked_front same = (
      worked.0,
      subst (λ ps. IsRoundFront answers sure ps one_ask worked.0) made (front_of_round answers sure parts numbers one_ask [] worked.0 tt worked.1),
      then_unchanged a b c worked.0 worked.2 same,
    )

    pub counted_round : (shown : List (List ℕ × Status × Option Origin)) (counted : Counted) → counted.components ≡ numbers.components → counted.obligations ≡ numbers.obligations →
        counted.discharged ≡ discharged_in shown →
        (x : Exchange) × (x.event ≡ Ask AskStatuses) × (x.reply ≡ Statuses shown) × Extends b (x ∷ []) c →
        (exchanges : List Exchange) × Counts answers sure round counted exchanges × Extends a exchanges c
    counted_round shown counted components obligations discharged (x, asks, shows, q) = (
      worked.0 ++ x ∷ [],
      record {
        numbers = numbers;
        statuses = x;
        shown = shown;
        whole = subst (λ ps. IsRound answers sure ps numbers (x ∷ []) (worked.0 ++ x ∷ [])) made (asked_round answers sure parts numbers (x ∷ []) worked.0 worked.1);
        statuses_is = (asks, shows);
        components = components;
        obligations = obligations;
        discharged = discharged;
      },
      both a b c worked.0 (x ∷ []) worked.2 q,
    )

module _ (answers : Sequent → Attempt → Type 0) (sure : Sequent → Type 0) where
  -- a whole round is a front of one
  pub front_of_count : (round : Round) (counted : Counted) (exchanges : List Exchange) → Counts answers sure round counted exchanges →
      IsRoundFront answers sure (edited_in round) one_ask exchanges
  front_of_count round counted exchanges w =
      front_of_round answers sure (edited_in round) w.numbers one_ask (w.statuses ∷ []) exchanges (w.statuses_is.0, tt) w.whole

  count_leads : DecidesSequents → (round : Round) (counted : Counted) (exchanges : List Exchange) (s t : State) (xs : List Exchange) → AtRest sure s xs →
      Counts answers sure round counted exchanges → Runs s exchanges t → Led sure s t xs exchanges
  count_leads decides round counted exchanges s t xs rest w run =
      round_leads answers sure decides (edited_in round) w.numbers one_ask (w.statuses ∷ []) exchanges s t xs rest simple (w.statuses_is.0, tt) w.whole run

  -- where the line of a whole round stops
  pub stops_at_line : (round : Round) (counted : Counted) (exchanges : List Exchange) (old new : Session) (sink : Writing) → Counts answers sure round counted exchanges → Extends old exchanges new →
      (stop : Stop) → LineStops sink (line_after round counted) stop → RoundStops answers sure round old new sink stop
  stops_at_line round counted exchanges old new sink w p Full never = absurd never
  stops_at_line round counted exchanges old new sink w p Cut cut = (counted, exchanges, w, p, cut)
  stops_at_line round counted exchanges old new sink w p OutOfMemory nothing = (exchanges, front_of_count round counted exchanges w, p, nothing)

  -- THE FIRST ROUND

  module _ (decides : DecidesSequents) (seed n : ℕ) (a b : Session) (empty : a.core ≡ opened no_texts) where
    rests : AtRest sure a.core []
    rests = subst (λ s. AtRest sure s []) (sym empty) (opened_rests sure)

    first_led : (counted : Counted) (exchanges : List Exchange) → Counts answers sure (Models seed n) counted exchanges → Extends a exchanges b → Led sure a.core b.core [] exchanges
    first_led counted exchanges w p = count_leads decides (Models seed n) counted exchanges a.core b.core [] rests w p.0

    -- no ticket is out after it, and it took few numbers
    pub first_rests : (counted : Counted) (exchanges : List Exchange) → Counts answers sure (Models seed n) counted exchanges → Extends a exchanges b →
        (b.core.out ≡ []) × (b.core.next ≤ 8388609)
    first_rests counted exchanges w p =
        let led = first_led counted exchanges w p in
        let next = led.next in
        let start = ap (λ s. s.next) empty in
        (led.rest.out, omega (arith, next, start))

    first_reaches : (exchanges : List Exchange) → IsLegal exchanges → Extends a exchanges b → Reaches answers sure seed n a b (Models seed n) [] [] exchanges
    first_reaches exchanges legal p = record { begins = inl (refl, refl, refl); extends = p; legal = legal }

    -- where the first round stops
    pub first_stops : (sink : Writing) (stop : Stop) → RoundStops answers sure (Models seed n) a b sink stop → ReachesStop answers sure seed n a b sink stop
    first_stops sink Full (exchanges, full, p, nothing) = (
      Models seed n,
      [],
      [],
      exchanges,
      first_reaches exchanges (full_legal (edited_in (Models seed n)) exchanges a.core b.core full p.0) p,
      full,
      Appends-kept sink.written sink.written_then nothing,
    )
    first_stops sink Cut (counted, exchanges, w, p, cut) =
        let led = first_led counted exchanges w p in
        (Models seed n, [], [], exchanges, counted, record { reaches = first_reaches exchanges led.legal p; counts = w; complete = led.complete }, cut)
    first_stops sink OutOfMemory (exchanges, front, p, nothing) = (
      Models seed n,
      [],
      [],
      exchanges,
      first_reaches exchanges (front_legal answers sure (edited_in (Models seed n)) one_ask exchanges a.core b.core [] rests simple front p.0) p,
      front,
      Appends-kept sink.written sink.written_then nothing,
    )

    -- THE SECOND ROUND

    module _ (enters : EntersAll) (c : Session) (counted : Counted) (done : List Exchange) (w : Counts answers sure (Models seed n) counted done) (p : Extends a done b) where
      first : Led sure a.core b.core [] done
      first = first_led counted done w p

      lasts : b.core.durable ≡ lasting done
      lasts = run_folds enters (opened no_texts) b.core done (subst (λ s. Runs s done b.core) empty p.0)

      begins : ComesAfter answers sure seed n (Edit n) done (line_after (Models seed n) counted)
      begins = inr (counted, refl, w, subst (λ d. LeavesNothingSure sure d done) lasts first.complete, refl)

      second_reaches : (exchanges : List Exchange) → IsLegal exchanges → Extends b exchanges c →
          Reaches answers sure seed n a c (Edit n) done (line_after (Models seed n) counted) exchanges
      second_reaches exchanges legal q =
          record { begins = begins; extends = both a b c done exchanges p q; legal = all_both IsLegalExchange done exchanges first.legal legal }

      second_finishes : (counted2 : Counted) (exchanges : List Exchange) → Counts answers sure (Edit n) counted2 exchanges → Extends b exchanges c →
          FinishesRun answers sure seed n a c (Edit n) done (line_after (Models seed n) counted) exchanges counted2
      second_finishes counted2 exchanges w2 q =
          let led = count_leads decides (Edit n) counted2 exchanges b.core c.core done first.rest w2 q.0 in
          record { reaches = second_reaches exchanges led.legal q; counts = w2; complete = led.complete }

      module _ (w0 w1 w2 : Option (List ℕ)) (f0 f1 f2 : ℕ) (later : f0 ≤ f1) (line : Writes (writing w0 w1 f0 f1) (line_after (Models seed n) counted)) where
        -- where both rounds are whole
        pub second_shows : RoundShows answers sure (Edit n) b c (writing w1 w2 f1 f2) → ReachesBoth answers sure seed n a c (writing w0 w2 f0 f2)
        second_shows (counted2, exchanges, counts, q, written) = (
          done,
          line_after (Models seed n) counted,
          exchanges,
          counted2,
          second_finishes counted2 exchanges counts q,
          Appends-both w0 w1 w2 _ _ line written,
        )

        -- where the second round stops
        pub second_stops : (stop : Stop) → RoundStops answers sure (Edit n) b c (writing w1 w2 f1 f2) stop → ReachesStop answers sure seed n a c (writing w0 w2 f0 f2) stop
        second_stops Full (exchanges, full, q, nothing) = (
          Edit n,
          done,
          line_after (Models seed n) counted,
          exchanges,
          second_reaches exchanges (full_legal (edited_in (Edit n)) exchanges b.core c.core full q.0) q,
          full,
          Appends-then_kept w0 w1 w2 _ line nothing,
        )
        second_stops Cut (counted2, exchanges, counts, q, cut) = (
          Edit n,
          done,
          line_after (Models seed n) counted,
          exchanges,
          counted2,
          second_finishes counted2 exchanges counts q,
          Writes-then_cut w0 w1 w2 f0 f1 f2 _ _ line later cut,
        )
        second_stops OutOfMemory (exchanges, front, q, nothing) = (
          Edit n,
          done,
          line_after (Models seed n) counted,
          exchanges,
          second_reaches exchanges (front_legal answers sure (edited_in (Edit n)) one_ask exchanges b.core c.core done first.rest simple front q.0) q,
          front,
          Appends-then_kept w0 w1 w2 _ line nothing,
        )

  -- WHAT COMES OF THE ROUNDS

  -- nothing was done, for want of memory
  pub demo_ran_out_at_once : (seed n : ℕ) (sink : Writing) (part : Part) → part.status ≡ 9 → HasNoHistory part → Writes sink [] → Demonstrates answers sure seed n sink part
  demo_ran_out_at_once seed n sink part status nothing written =
      shows_front (record {
        round = Models seed n;
        done = [];
        text = [];
        exchanges = [];
        begins = inl (refl, refl, refl);
        front = inl tt;
        leads = record { state = opened no_texts; run = refl; legal = tt; history = nothing.0; last = nothing.1 };
        status_is = status;
        written = written;
      })

  module _ (seed n : ℕ) (old new : Session) (part : Part) (enters : EntersAll) (fresh : old.core ≡ opened no_texts) (empty : old.history.items ≡ [])
      (history : part.history.items ≡ new.history.items) (last : part.last ≡ new.core.durable) where
    leads_so : (round : Round) (done : List Exchange) (text : List ℕ) (exchanges : List Exchange) → Reaches answers sure seed n old new round done text exchanges → LeadsToPart part (done ++ exchanges)
    leads_so round done text exchanges r =
        leads answers sure old new (done ++ exchanges) part
        (record { enters = enters; fresh = fresh; empty = empty; extends = r.extends; legal = r.legal; history = history; last = last })

    pub demonstrates_both : (sink : Writing) → part.status ≡ 0 → ReachesBoth answers sure seed n old new sink → Demonstrates answers sure seed n sink part
    demonstrates_both sink status (done, text, exchanges, counted, f, written) =
        shows_both (record {
          done = done;
          text = text;
          exchanges = exchanges;
          counted = counted;
          begins = f.reaches.begins;
          counts = f.counts;
          leads = leads_so (Edit n) done text exchanges f.reaches;
          complete = subst (λ d. LeavesNothingSure sure d (done ++ exchanges)) (sym last) f.complete;
          status_is = status;
          written = written;
        })

    -- where a round stopped, with what is written behind the lines
    module _ (w0 w1 w2 : Option (List ℕ)) (f0 f1 f2 : ℕ) (later : f0 ≤ f1) where
      untouched : (P : Writing → Type 0) → IsUntouched (writing w1 w2 f1 f2) → P (writing w0 w1 f0 f1) → P (writing w0 w2 f0 f2)
      untouched P (w, f) p = subst (λ u. P (writing w0 u f0 f2)) (sym w) (subst (λ g. P (writing w0 w1 f0 g)) (sym f) p)

      pub demonstrates_stop : (stop : Stop) → part.status ≡ stop_status stop → ReachesStop answers sure seed n old new (writing w0 w1 f0 f1) stop → ReportsStop (writing w1 w2 f1 f2) stop →
          Demonstrates answers sure seed n (writing w0 w2 f0 f2) part
      demonstrates_stop Full status (round, done, text, exchanges, r, full, written) last_line =
          shows_full (record {
            round = round;
            done = done;
            text = text;
            exchanges = exchanges;
            begins = r.begins;
            full = full;
            leads = leads_so round done text exchanges r;
            status_is = status;
            written = Writes-then_last w0 w1 w2 f0 f1 f2 text (codes "full: table\n") written later last_line;
          })
      demonstrates_stop Cut status (round, done, text, exchanges, counted, f, written) kept =
          shows_cut (record {
            round = round;
            done = done;
            text = text;
            exchanges = exchanges;
            counted = counted;
            begins = f.reaches.begins;
            counts = f.counts;
            leads = leads_so round done text exchanges f.reaches;
            complete = subst (λ d. LeavesNothingSure sure d (done ++ exchanges)) (sym last) f.complete;
            status_is = status;
            written = untouched (λ sink. WritesCut sink (text ++ line_after round counted)) kept written;
          })
      demonstrates_stop OutOfMemory status (round, done, text, exchanges, r, front, written) kept =
          shows_front (record {
            round = round;
            done = done;
            text = text;
            exchanges = exchanges;
            begins = r.begins;
            front = front;
            leads = leads_so round done text exchanges r;
            status_is = status;
            written = untouched (λ sink. Writes sink text) kept written;
          })

  -- THE STATUS

  pub demo_rose : (seed n : ℕ) (sink : Writing) (part : Part) → Demonstrates answers sure seed n sink part → part.status ≡ 4 → SinkFailed sink
  demo_rose seed n sink part (shows_both both) e = absurd (not_other part.status 0 4 both.status_is e (omega arith))
  demo_rose seed n sink part (shows_cut cut) e = cut.written.0
  demo_rose seed n sink part (shows_full full) e = absurd (not_other part.status 7 4 full.status_is e (omega arith))
  demo_rose seed n sink part (shows_front lacking) e = absurd (not_other part.status 9 4 lacking.status_is e (omega arith))

  pub demo_without_rise : (seed n : ℕ) (sink : Writing) (part : Part) → Demonstrates answers sure seed n sink part → (SinkFailed sink → ⊥) → IsUnfailedDemoStatus part.status
  demo_without_rise seed n sink part (shows_both both) never = demo_whole both.status_is
  demo_without_rise seed n sink part (shows_cut cut) never = absurd (never cut.written.0)
  demo_without_rise seed n sink part (shows_full full) never = demo_too_large full.status_is
  demo_without_rise seed n sink part (shows_front lacking) never = demo_without_memory lacking.status_is

  demo_not_other : (seed n : ℕ) (sink : Writing) (part : Part) → Demonstrates answers sure seed n sink part → (k : ℕ) → part.status ≡ k → 0 ≢ k → 4 ≢ k → 7 ≢ k → 9 ≢ k → ⊥
  demo_not_other seed n sink part (shows_both both) k e not_0 not_4 not_7 not_9 = not_other part.status 0 k both.status_is e not_0
  demo_not_other seed n sink part (shows_cut cut) k e not_0 not_4 not_7 not_9 = not_other part.status 4 k cut.status_is e not_4
  demo_not_other seed n sink part (shows_full full) k e not_0 not_4 not_7 not_9 = not_other part.status 7 k full.status_is e not_7
  demo_not_other seed n sink part (shows_front lacking) k e not_0 not_4 not_7 not_9 = not_other part.status 9 k lacking.status_is e not_9

  -- no status of `demo` is 2 or 3
  pub demo_not_2 : (seed n : ℕ) (sink : Writing) (part : Part) → Demonstrates answers sure seed n sink part → part.status ≢ 2
  demo_not_2 seed n sink part d e = demo_not_other seed n sink part d 2 e (omega arith) (omega arith) (omega arith) (omega arith)

  pub demo_not_3 : (seed n : ℕ) (sink : Writing) (part : Part) → Demonstrates answers sure seed n sink part → part.status ≢ 3
  demo_not_3 seed n sink part d e = demo_not_other seed n sink part d 3 e (omega arith) (omega arith) (omega arith) (omega arith)

  -- the same numbers say the same
  pub same_demo : (seed n s m : ℕ) → seed ≡ s → n ≡ m → (sink : Writing) (part : Part) → Demonstrates answers sure seed n sink part → Demonstrates answers sure s m sink part
  same_demo seed n s m one two sink part d = subst (λ k. Demonstrates answers sure k m sink part) one (subst (λ k. Demonstrates answers sure seed k sink part) two d)
