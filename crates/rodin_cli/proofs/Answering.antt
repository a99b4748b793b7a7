-- What `check` answers, from what it did.
use Rattle.std.proofs.Common.{◌≡◌, ◌≢◌, ◌∙◌, ◌⊎◌, inl, inr, sym, ap, subst, refl, ℕ, List, [], ◌∷◌, ◌++◌, arith}
use Rattle.std.specs.Prelude.{Option, Ok, Err, codes}
use Rattle.sequent_core.specs.declared.Sequent.{Sequent}
use Rattle.sequent_core.specs.declared.Attempt.{Attempt}
use Rattle.build_core.specs.declared.FaultLine.{FaultLine}
use Rattle.proof_entries.specs.declared.Origin.{Origin}
use Rattle.core_steps.specs.declared.Status.{Status}
use Rattle.core_steps.specs.Laws.{EntersAll}
use Rattle.core_steps.specs.Status.{IsRebuilt}
use Rattle.core_steps.specs.State.{opened, no_texts}
use Rattle.core_steps.specs.Run.{Exchange, Runs, IsLegal, history_of}
use Rattle.true_marks.specs.TrueMarks.{AreTrueMarks}
use Rattle.true_marks.proofs.Truths.{marks_are_true}
use Rattle.rodin_cli.specs.declared.session.Session.{Session}
use Rattle.rodin_cli.specs.declared.outcome.Part.{Part}
use Rattle.check_input.specs.Inputs.{Component, IsInput}
use Rattle.check_input.specs.Lines.{input_line}
use Rattle.check_input.specs.declared.input.InputFault.{InputFault}
use Rattle.rodin_cli.specs.PrivateSession.{Extends}
use Rattle.rodin_cli.specs.Script.{IsFullScript, IsWholeScript, IsFront}
use Rattle.session_streams.specs.Streams.{SourceState, Writing, SourceFailed, SinkFailed, Writes, WritesCut, WritesNothing}
use Rattle.session_ends.specs.Written.{WritesOrFails}
use Rattle.rodin_cli.specs.Streams.{IsAtInputEnd}
use Rattle.rodin_cli.specs.Texts.{printed_lines}
use Rattle.rodin_cli.specs.Check.{LeadsToPart, IsAnswered, IsTooFull, RanOut, EndsWithLine, HasNoHistory, TellsFaults, TellsWarnings, IsProved, check_status}
use Rattle.rodin_cli.specs.Check.{ComesOf, an_answer, a_full_table, a_bad_input, want_of_memory, RunsCheck, answers_input, refuses_long_input, meets_read_fault, runs_out_reading}
use Rattle.rodin_cli.specs.Check.{ReadsToEnd, input_clean, input_faulty, answer_cut, IsUnfailedCheckStatus, check_clean, check_faulty, check_too_large, check_without_memory}
use Rattle.rodin_cli.specs.Private.{PrintsAnswer, prints_whole, prints_front, prints_nothing}
use Rattle.session_run.specs.Completeness.{LeavesNothingSure}
use Rattle.rodin_cli.proofs.Sessions.{front_of_whole}
use Rattle.rodin_cli.proofs.Folding.{run_folds}
use Rattle.rodin_cli.proofs.Clean.{told_of, clean_of, proved_of}
use Rattle.rodin_cli.proofs.Building.{built_of}

-- a session that began empty and did these exchanges
pub record Did (old new : Session) (exchanges : List Exchange) (part : Part) : Type 0 where
  pub enters : EntersAll
  pub fresh : old.core ≡ opened no_texts
  pub empty : old.history.items ≡ []
  pub extends : Extends old exchanges new
  pub legal : IsLegal exchanges
  pub history : part.history.items ≡ new.history.items
  pub last : part.last ≡ new.core.durable

module _ (answers : Sequent → Attempt → Type 0) (sure : Sequent → Type 0) (old new : Session) (exchanges : List Exchange) (part : Part) (did : Did old new exchanges part) where
  ran : Runs (opened no_texts) exchanges new.core
  ran = subst (λ s. Runs s exchanges new.core) did.fresh did.extends.0

  pub leads : LeadsToPart part exchanges
  leads = record {
    state = new.core;
    run = ran;
    legal = did.legal;
    history = did.history ∙ did.extends.1 ∙ ap (λ h. h ++ history_of 0 exchanges) did.empty;
    last = did.last ∙ run_folds did.enters (opened no_texts) new.core exchanges ran;
  }

  pub ran_out : (bytes : List ℕ) (sink : Writing) (parts : List Component) → part.status ≡ 9 → IsInput bytes (Ok parts) → IsFront answers sure parts exchanges → WritesNothing sink →
      RanOut answers sure bytes sink part
  ran_out bytes sink parts status made front nothing =
      record { status_is = status; exchanges = exchanges; front = inr (parts, made, front); leads = leads; text = nothing }

  pub too_full : (bytes : List ℕ) (sink : Writing) (parts : List Component) → part.status ≡ 7 → IsInput bytes (Ok parts) → IsFullScript parts exchanges → WritesOrFails sink (codes "full: table\n") →
      IsTooFull bytes sink part
  too_full bytes sink parts status made full text =
      record { parts = parts; made = made; exchanges = exchanges; full = full; leads = leads; status_is = status; text = text }

  module _ (parts : List Component) (told : List FaultLine) (warned : List (List ℕ × List ℕ)) (shown : List (List ℕ × Status × Option Origin)) (whole : IsWholeScript answers sure parts told warned shown exchanges)
      (complete : LeavesNothingSure sure new.core.durable exchanges) where
    pub answered : (bytes : List ℕ) (sink : Writing) → IsInput bytes (Ok parts) →
        ((part.status ≡ check_status told) × Writes sink (printed_lines told warned shown)) ⊎ ((part.status ≡ 4) × WritesCut sink (printed_lines told warned shown)) → IsAnswered answers sure bytes sink part
    answered bytes sink made text =
        let clean = clean_of answers sure parts told warned shown exchanges (opened no_texts) new.core whole ran in
        let tells = told_of answers sure parts told warned shown exchanges (opened no_texts) new.core whole ran in
        record {
          parts = parts;
          made = made;
          exchanges = exchanges;
          told = told;
          warned = warned;
          shown = shown;
          whole = whole;
          leads = leads;
          built = ap (λ d. d.built) did.last ∙ built_of answers sure bytes parts told warned shown exchanges new.core made whole ran;
          faults = subst (λ d. TellsFaults d told) (sym did.last) tells.0;
          warnings = subst (λ d. TellsWarnings d warned) (sym did.last) tells.1;
          clean = subst (λ d. IsRebuilt d shown) (sym did.last) clean;
          proved = subst (λ d. IsProved d shown) (sym did.last) (proved_of new.core.durable shown clean);
          true_marks = subst (λ d. AreTrueMarks d.built shown) (sym did.last) (marks_are_true new.core.durable shown clean);
          complete = subst (λ d. LeavesNothingSure sure d exchanges) (sym did.last) complete;
          text = text;
        }

-- nothing was done, for want of memory
pub ran_out_at_once : (answers : Sequent → Attempt → Type 0) (sure : Sequent → Type 0) (bytes : List ℕ) (sink : Writing) (part : Part) → part.status ≡ 9 → HasNoHistory part → WritesNothing sink →
    RanOut answers sure bytes sink part
ran_out_at_once answers sure bytes sink part status nothing kept =
    record {
      status_is = status;
      exchanges = [];
      front = inl refl;
      text = kept;
      leads = record { state = opened no_texts; run = refl; legal = tt; history = nothing.0; last = nothing.1 };
    }

-- an answer that is written, cut, or not begun for want of memory
pub comes_of_answer : (answers : Sequent → Attempt → Type 0) (sure : Sequent → Type 0) (old new : Session) (exchanges : List Exchange) (part : Part) → Did old new exchanges part →
    (parts : List Component) (told : List FaultLine) (warned : List (List ℕ × List ℕ)) (shown : List (List ℕ × Status × Option Origin)) → IsWholeScript answers sure parts told warned shown exchanges → LeavesNothingSure sure new.core.durable exchanges →
    (bytes : List ℕ) (sink : Writing) (status : ℕ) → part.status ≡ status → IsInput bytes (Ok parts) → PrintsAnswer told warned shown sink status →
    ComesOf answers sure bytes sink part
comes_of_answer answers sure old new exchanges part did parts told warned shown whole complete bytes sink status same made (prints_whole is written) =
    an_answer (answered answers sure old new exchanges part did parts told warned shown whole complete bytes sink made (inl (same ∙ is, written)))
comes_of_answer answers sure old new exchanges part did parts told warned shown whole complete bytes sink status same made (prints_front is written) =
    an_answer (answered answers sure old new exchanges part did parts told warned shown whole complete bytes sink made (inr (same ∙ is, written)))
comes_of_answer answers sure old new exchanges part did parts told warned shown whole complete bytes sink status same made (prints_nothing is unwritten) =
    want_of_memory (ran_out answers sure old new exchanges part did bytes sink parts (same ∙ is) made (front_of_whole answers sure parts told warned shown exchanges whole) unwritten)

-- an input that is refused, or whose last line isn't made for want of memory
pub comes_of_refusal : (answers : Sequent → Attempt → Type 0) (sure : Sequent → Type 0) (bytes : List ℕ) (sink : Writing) (part : Part) (fault : InputFault) → IsInput bytes (Err fault) →
    EndsWithLine 1 (input_line fault) sink part ⊎ ((part.status ≡ 9) × HasNoHistory part × WritesNothing sink) → ComesOf answers sure bytes sink part
comes_of_refusal answers sure bytes sink part fault made (inl ends) = a_bad_input fault made ends
comes_of_refusal answers sure bytes sink part fault made (inr lacking) = want_of_memory (ran_out_at_once answers sure bytes sink part lacking.0 lacking.1 lacking.2)

-- THE STATUS

-- a status of `check`, with what it tells of its source and its sink
data HasCheckCause (source : SourceState) (sink : Writing) (status : ℕ) : Type 0 where
  by_clean : status ≡ 0 → IsAtInputEnd source → HasCheckCause source sink status
  by_fault : status ≡ 1 → IsAtInputEnd source → HasCheckCause source sink status
  by_source : status ≡ 3 → SourceFailed source → HasCheckCause source sink status
  by_sink : status ≡ 4 → IsAtInputEnd source → SinkFailed sink → HasCheckCause source sink status
  by_size : status ≡ 7 → HasCheckCause source sink status
  by_memory : status ≡ 9 → HasCheckCause source sink status

answer_cause : (source : SourceState) (sink : Writing) (status : ℕ) (told : List FaultLine) (text : List ℕ) → IsAtInputEnd source →
    ((status ≡ check_status told) × Writes sink text) ⊎ ((status ≡ 4) × WritesCut sink text) → HasCheckCause source sink status
answer_cause source sink status [] text ended (inl written) = by_clean written.0 ended
answer_cause source sink status (f ∷ told) text ended (inl written) = by_fault written.0 ended
answer_cause source sink status told text ended (inr cut) = by_sink cut.0 ended cut.1.0

check_cause : (answers : Sequent → Attempt → Type 0) (sure : Sequent → Type 0) (source : SourceState) (sink : Writing) (part : Part) → RunsCheck answers sure source sink part →
    HasCheckCause source sink part.status
check_cause answers sure source sink part (answers_input bytes read fits (an_answer a)) =
    answer_cause source sink part.status a.told (printed_lines a.told a.warned a.shown) (read.ended fits) a.text
check_cause answers sure source sink part (answers_input bytes read fits (a_full_table full)) = by_size full.status_is
check_cause answers sure source sink part (answers_input bytes read fits (a_bad_input fault made ends)) = by_fault ends.status_is (read.ended fits)
check_cause answers sure source sink part (answers_input bytes read fits (want_of_memory lacking)) = by_memory lacking.status_is
check_cause answers sure source sink part (refuses_long_input bytes read long ends) = by_size ends.status_is
check_cause answers sure source sink part (meets_read_fault failed read ends) = by_source ends.status_is failed
check_cause answers sure source sink part (runs_out_reading read is nothing kept) = by_memory is

other : (status k : ℕ) → status ≡ k → k ≢ 2 → status ≢ 2
other status k is differ e = differ (sym is ∙ e)

module _ (source : SourceState) (sink : Writing) (status : ℕ) where
  not_at_end : (k : ℕ) → status ≡ k → k ≢ 0 → k ≢ 1 → k ≢ 4 → ReadsToEnd status → ⊥
  not_at_end k is not_0 not_1 not_4 (input_clean e) = not_0 (sym is ∙ e)
  not_at_end k is not_0 not_1 not_4 (input_faulty e) = not_1 (sym is ∙ e)
  not_at_end k is not_0 not_1 not_4 (answer_cut e) = not_4 (sym is ∙ e)

  cause_ended : HasCheckCause source sink status → ReadsToEnd status → IsAtInputEnd source
  cause_ended (by_clean is ended) reads = ended
  cause_ended (by_fault is ended) reads = ended
  cause_ended (by_source is failed) reads = absurd (not_at_end 3 is (omega arith) (omega arith) (omega arith) reads)
  cause_ended (by_sink is ended failed) reads = ended
  cause_ended (by_size is) reads = absurd (not_at_end 7 is (omega arith) (omega arith) (omega arith) reads)
  cause_ended (by_memory is) reads = absurd (not_at_end 9 is (omega arith) (omega arith) (omega arith) reads)

  cause_read_fault : HasCheckCause source sink status → status ≡ 3 → SourceFailed source
  cause_read_fault (by_clean is ended) e = absurd (omega (arith, is, e))
  cause_read_fault (by_fault is ended) e = absurd (omega (arith, is, e))
  cause_read_fault (by_source is failed) e = failed
  cause_read_fault (by_sink is ended failed) e = absurd (omega (arith, is, e))
  cause_read_fault (by_size is) e = absurd (omega (arith, is, e))
  cause_read_fault (by_memory is) e = absurd (omega (arith, is, e))

  cause_write_fault : HasCheckCause source sink status → status ≡ 4 → SinkFailed sink
  cause_write_fault (by_clean is ended) e = absurd (omega (arith, is, e))
  cause_write_fault (by_fault is ended) e = absurd (omega (arith, is, e))
  cause_write_fault (by_source is failed) e = absurd (omega (arith, is, e))
  cause_write_fault (by_sink is ended failed) e = failed
  cause_write_fault (by_size is) e = absurd (omega (arith, is, e))
  cause_write_fault (by_memory is) e = absurd (omega (arith, is, e))

  cause_unfailed : HasCheckCause source sink status → (SourceFailed source → ⊥) → (SinkFailed sink → ⊥) → IsUnfailedCheckStatus status
  cause_unfailed (by_clean is ended) read written = check_clean is
  cause_unfailed (by_fault is ended) read written = check_faulty is
  cause_unfailed (by_source is failed) read written = absurd (read failed)
  cause_unfailed (by_sink is ended failed) read written = absurd (written failed)
  cause_unfailed (by_size is) read written = check_too_large is
  cause_unfailed (by_memory is) read written = check_without_memory is

  cause_not_2 : HasCheckCause source sink status → status ≢ 2
  cause_not_2 (by_clean is ended) = other status 0 is (omega arith)
  cause_not_2 (by_fault is ended) = other status 1 is (omega arith)
  cause_not_2 (by_source is failed) = other status 3 is (omega arith)
  cause_not_2 (by_sink is ended failed) = other status 4 is (omega arith)
  cause_not_2 (by_size is) = other status 7 is (omega arith)
  cause_not_2 (by_memory is) = other status 9 is (omega arith)

module _ (answers : Sequent → Attempt → Type 0) (sure : Sequent → Type 0) (source : SourceState) (sink : Writing) (part : Part) (runs : RunsCheck answers sure source sink part) where
  cause : HasCheckCause source sink part.status
  cause = check_cause answers sure source sink part runs

  pub check_ended : ReadsToEnd part.status → IsAtInputEnd source
  check_ended reads = cause_ended source sink part.status cause reads

  pub check_read_fault : part.status ≡ 3 → SourceFailed source
  check_read_fault e = cause_read_fault source sink part.status cause e

  pub check_write_fault : part.status ≡ 4 → SinkFailed sink
  check_write_fault e = cause_write_fault source sink part.status cause e

  pub check_unfailed : (SourceFailed source → ⊥) → (SinkFailed sink → ⊥) → IsUnfailedCheckStatus part.status
  check_unfailed read written = cause_unfailed source sink part.status cause read written

  -- no status of an input is 2
  pub check_not_2 : part.status ≢ 2
  check_not_2 e = cause_not_2 source sink part.status cause e
