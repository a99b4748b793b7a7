-- The dialogue of a user's chair between its lines.
use Rattle.std.specs.Prelude.{◌≡◌, ◌⊎◌, ◌≤◌, ⊤, ℕ, List, Result, Ok, Err}
use Rattle.sequent_core.specs.declared.Sequent.{Sequent}
use Rattle.sequent_core.specs.declared.Attempt.{Attempt}
use Rattle.session_words.specs.declared.line.Line.{Line}
use Rattle.session_words.specs.declared.line.Line.TheVariants as line
use Rattle.store_log.specs.declared.Logged.{Logged}
use Rattle.store_log.specs.declared.StoreBase.{StoreBase}
use Rattle.session_run.specs.declared.answering.Stop.{Stop}
use Rattle.session_run.specs.declared.answering.Stop.TheVariants as stop
use Rattle.session_run.specs.Dialogue.{tells}
use Rattle.session_run.specs.Talking.{HasTalked, AnswersUpTo, StoppedIn}
use Rattle.session_streams.specs.declared.reading.Reader.{Reader}
use Rattle.session_streams.specs.Reads.{IsReading}
use Rattle.session_streams.specs.Streams.{SourceState, Writing, Writes, WritesCut, WritesNothing}
use Rattle.session_talk.specs.declared.conversing.Ending.{Ending}
use Rattle.session_talk.specs.declared.conversing.Ending.TheVariants.{Quit, CutEdit, WriteFault, OutOfMemory, Store}
use Rattle.session_talk.specs.Conversing.{Converses}

-- how the commands end where a line isn't answered
abbrev pub ending_of : Stop → Ending
ending_of stop.OutOfMemory = OutOfMemory
ending_of (stop.Store fault) = Store fault

-- the commands end so at the line
abbrev pub EndsAt : Line → Ending → Type 0
EndsAt it ending = ((it ≡ line.Quit) × (ending ≡ Quit)) ⊎ ((it ≡ line.CutEdit) × (ending ≡ CutEdit))

-- what is said to a line was written whole, or cut where the sink failed
abbrev pub SaysOrEnds : Writing → List ℕ → Result ⊤ Ending → Type 0
SaysOrEnds sink said (Ok done) = Writes sink said
SaysOrEnds sink said (Err WriteFault) = WritesCut sink said
SaysOrEnds sink said (Err ending) = ⊥

module _ (fair : Sequent → Attempt → Type 0) (base : StoreBase) (user : ℕ) where
  -- So far the chair has answered all lines that it read, and written the answers.
  pub record IsServing (source : SourceState) (sink : Writing) (seen : List Logged) (reader : Reader) : Type 0 where
    pub taken : List ℕ
    pub lines : List Line
    pub text : List ℕ
    pub reads : IsReading source.left source.left_then taken lines reader
    pub talked : HasTalked fair base user seen lines text
    pub writes : Writes sink text
    pub source_later : source.faults ≤ source.faults_then
    pub sink_later : sink.faults ≤ sink.faults_then

  -- what the answer to a line did, and what of it was written
  abbrev pub ServesLine : Line → List Logged → Result ⊤ Ending → List Logged → Writing → Type 0
  ServesLine line old (Ok done) new sink =
      (said : List ℕ) × AnswersUpTo fair base user line old (tells said) new × Writes sink said
  ServesLine line old (Err WriteFault) new sink =
      (said : List ℕ) × AnswersUpTo fair base user line old (tells said) new × WritesCut sink said
  ServesLine line old (Err OutOfMemory) new sink =
      (said : List ℕ) × AnswersUpTo fair base user line old (tells said) new × WritesNothing sink
  ServesLine line old (Err (Store fault)) new sink = StoppedIn fair base user line old new × WritesNothing sink
  ServesLine line old (Err ending) new sink = ⊥

  -- one more line was answered, or the commands ended
  abbrev pub TurnsTo : SourceState → Writing → List Logged → Reader → Result ⊤ Ending → Type 0
  TurnsTo source sink seen reader (Ok done) = IsServing source sink seen reader
  TurnsTo source sink seen reader (Err ending) = Converses fair base user source sink seen ending
