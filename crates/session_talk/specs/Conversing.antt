-- How the dialogue of a user's chair with the user ended.
use Rattle.std.specs.Prelude.{◌≤◌, ℕ, Bool, List, ◌++◌, take}
use Rattle.sequent_core.specs.declared.Sequent.{Sequent}
use Rattle.sequent_core.specs.declared.Attempt.{Attempt}
use Rattle.session_lines.specs.declared.command.Command.{Command}
use Rattle.session_words.specs.declared.line.Line.{Line}
use Rattle.session_words.specs.declared.line.Line.TheVariants as line
use Rattle.store_log.specs.declared.Logged.{Logged}
use Rattle.store_log.specs.declared.StoreBase.{StoreBase}
use Rattle.session_run.specs.Dialogue.{tells}
use Rattle.session_run.specs.Talking.{HasTalked, IsTalking, StopsAtLine}
use Rattle.session_streams.specs.Reads.{HasRead, IsNextLine, IsReadEnd}
use Rattle.session_streams.specs.Streams.{SourceState, Writing, SinkFailed, Writes}
use Rattle.session_talk.specs.declared.conversing.Ending.{Ending}
use Rattle.session_talk.specs.declared.conversing.Ending.TheVariants.{Read, Quit, CutEdit, WriteFault, OutOfMemory, Store}

-- below, the chair of this user has seen this log
module _
    (fair : Sequent → Attempt → Type 0) (base : StoreBase) (user : ℕ) (source : SourceState) (sink : Writing) (seen : List Logged)
  where
    -- What this ending says. The lines were answered, and their text is written. At the last three the next line was
    -- begun: the sink failed on its text, its text was not made, or a store fault stopped its answer.
    abbrev pub IsOver : List ℕ → Bool → List Line → List Command → List ℕ → Ending → Type 0
    IsOver taken ended lines left text (Read end) =
        HasTalked fair base user seen lines text × Writes sink text
        × IsReadEnd end source.faults source.faults_then taken ended left
    IsOver taken ended lines left text Quit =
        HasTalked fair base user seen lines text × Writes sink text × IsNextLine left line.Quit
    IsOver taken ended lines left text CutEdit =
        HasTalked fair base user seen lines text × Writes sink text × IsNextLine left line.CutEdit
    IsOver taken ended lines left text WriteFault =
        (next : Line) × (said : List ℕ) × IsNextLine left next × IsTalking fair base user seen lines text next (tells said)
        × SinkFailed sink × ((n : ℕ) × Writes sink (text ++ take n said))
    IsOver taken ended lines left text OutOfMemory =
        (next : Line) × (said : List ℕ) × IsNextLine left next × IsTalking fair base user seen lines text next (tells said)
        × Writes sink text
    IsOver taken ended lines left text (Store fault) =
        (next : Line) × IsNextLine left next × StopsAtLine fair base user lines text next seen × Writes sink text

    -- The commands ended so: these bytes were taken, these lines answered by this text, and these commands are left.
    pub record Converses (ending : Ending) : Type 0 where
      pub taken : List ℕ
      pub ended : Bool
      pub lines : List Line
      pub left : List Command
      pub text : List ℕ
      pub read : HasRead source.left source.left_then taken ended lines left
      pub over : IsOver taken ended lines left text ending
      pub sink_later : sink.faults ≤ sink.faults_then
