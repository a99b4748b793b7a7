-- What the clauses of private functions cite.
use Rattle.std.specs.Prelude.{◌≡◌, ℕ, ◌≤◌, ◌<◌, ◌^◌, List, [], ◌∷◌, ◌++◌, codes, Option}
use Rattle.sequent_core.specs.declared.Sequent.{Sequent}
use Rattle.sequent_core.specs.declared.Attempt.{Attempt}
use Rattle.build_core.specs.declared.FaultLine.{FaultLine}
use Rattle.proof_entries.specs.declared.Origin.{Origin}
use Rattle.core_steps.specs.declared.Status.{Status}
use Rattle.core_steps.specs.declared.Question.TheVariants.{Statuses as AskStatuses}
use Rattle.core_steps.specs.Run.{Exchange, IsLegal}
use Rattle.rodin_cli.specs.declared.session.Session.{Session}
use Rattle.rodin_cli.specs.declared.demo.Counted.{Counted}
use Rattle.rodin_cli.specs.declared.demo.Round.{Round}
use Rattle.rodin_cli.specs.declared.demo.Round.TheVariants.{Models, Edit}
use Rattle.rodin_cli.specs.declared.demo.Stop.{Stop}
use Rattle.rodin_cli.specs.declared.demo.Stop.TheVariants.{Full, Cut, OutOfMemory}
use Rattle.rodin_cli.specs.Check.{check_status}
use Rattle.session_run.specs.Completeness.{LeavesNothingSure}
use Rattle.rodin_cli.specs.Demo.{edited_in, line_after, Counts, ComesAfter}
use Rattle.rodin_cli.specs.Script.{IsFullScript, IsRoundFront}
use Rattle.rodin_cli.specs.PrivateSession.{Extends}
use Rattle.session_streams.specs.Streams.{Writing, Writes, WritesCut, WritesNothing}
use Rattle.session_ends.specs.Written.{WritesOrFails}
use Rattle.rodin_cli.specs.Texts.{printed_lines}
use Rattle.rodin_cli.specs.Words.{IsNumberWord}

-- the word `demo` and two numbers, the first of 64 bits and the second from 1 to 128
pub record AreDemoWords (word seed_word n_word : List ℕ) (seed n : ℕ) : Type 0 where
  pub word_is : word ≡ codes "demo"
  pub seed_is : IsNumberWord seed_word seed × (seed < 2 ^ 64)
  pub n_is : IsNumberWord n_word n × (1 ≤ n) × (n ≤ 128)

-- the word `session` and a number from 0 to 8
pub record AreSessionWords (word workers_word : List ℕ) (workers : ℕ) : Type 0 where
  pub word_is : word ≡ codes "session"
  pub workers_is : IsNumberWord workers_word workers × (workers ≤ 8)

-- what is written of an answer, by the exit status: all of it, a front of it, or nothing for want of memory
pub data PrintsAnswer (told : List FaultLine) (warned : List (List ℕ × List ℕ)) (shown : List (List ℕ × Status × Option Origin)) (sink : Writing) (status : ℕ) : Type 0 where
  prints_whole : (status_is : status ≡ check_status told) (written : Writes sink (printed_lines told warned shown)) → PrintsAnswer told warned shown sink status
  prints_front : (status_is : status ≡ 4) (written : WritesCut sink (printed_lines told warned shown)) → PrintsAnswer told warned shown sink status
  prints_nothing : (status_is : status ≡ 9) (unwritten : WritesNothing sink) → PrintsAnswer told warned shown sink status

-- there are at most 128 models
abbrev pub HasFewModels : Round → Type 0
HasFewModels (Models seed n) = n ≤ 128
HasFewModels (Edit n) = n ≤ 128

-- what was written of a line where the round stopped at it
abbrev pub LineStops : Writing → List ℕ → Stop → Type 0
LineStops sink line Full = ⊥
LineStops sink line Cut = WritesCut sink line
LineStops sink line OutOfMemory = WritesNothing sink

-- the round is whole, and its line is written
abbrev pub RoundShows : (Sequent → Attempt → Type 0) → (Sequent → Type 0) → Round → Session → Session → Writing → Type 0
RoundShows answers sure round old new sink =
    (counted : Counted) × (exchanges : List Exchange) × Counts answers sure round counted exchanges × Extends old exchanges new × Writes sink (line_after round counted)

-- what the round did where it stopped
abbrev pub RoundStops : (Sequent → Attempt → Type 0) → (Sequent → Type 0) → Round → Session → Session → Writing → Stop → Type 0
RoundStops answers sure round old new sink Full = (exchanges : List Exchange) × IsFullScript (edited_in round) exchanges × Extends old exchanges new × WritesNothing sink
RoundStops answers sure round old new sink Cut =
    (counted : Counted) × (exchanges : List Exchange) × Counts answers sure round counted exchanges × Extends old exchanges new × WritesCut sink (line_after round counted)
RoundStops answers sure round old new sink OutOfMemory =
    (exchanges : List Exchange) × IsRoundFront answers sure (edited_in round) (AskStatuses ∷ []) exchanges × Extends old exchanges new × WritesNothing sink

-- the session came into this round, after these exchanges with this text, and did these exchanges of it
pub record Reaches (answers : Sequent → Attempt → Type 0) (sure : Sequent → Type 0) (seed n : ℕ) (old new : Session) (round : Round) (done : List Exchange) (text : List ℕ) (exchanges : List Exchange) : Type 0 where
  pub begins : ComesAfter answers sure seed n round done text
  pub extends : Extends old (done ++ exchanges) new
  pub legal : IsLegal (done ++ exchanges)

-- and the round is whole
pub record FinishesRun (answers : Sequent → Attempt → Type 0) (sure : Sequent → Type 0) (seed n : ℕ) (old new : Session) (round : Round) (done : List Exchange) (text : List ℕ) (exchanges : List Exchange) (counted : Counted) : Type 0 where
  pub reaches : Reaches answers sure seed n old new round done text exchanges
  pub counts : Counts answers sure round counted exchanges
  pub complete : LeavesNothingSure sure new.core.durable (done ++ exchanges)

-- the second round is whole, and both lines are written
abbrev pub ReachesBoth : (Sequent → Attempt → Type 0) → (Sequent → Type 0) → ℕ → ℕ → Session → Session → Writing → Type 0
ReachesBoth answers sure seed n old new sink =
    (done : List Exchange) × (text : List ℕ) × (exchanges : List Exchange) × (counted : Counted)
    × FinishesRun answers sure seed n old new (Edit n) done text exchanges counted × Writes sink (text ++ line_after (Edit n) counted)

-- A round stopped: its table is too large, its line is cut, or memory ran out in it.
abbrev pub ReachesStop : (Sequent → Attempt → Type 0) → (Sequent → Type 0) → ℕ → ℕ → Session → Session → Writing → Stop → Type 0
ReachesStop answers sure seed n old new sink Full =
    (round : Round) × (done : List Exchange) × (text : List ℕ) × (exchanges : List Exchange)
    × Reaches answers sure seed n old new round done text exchanges × IsFullScript (edited_in round) exchanges × Writes sink text
ReachesStop answers sure seed n old new sink Cut =
    (round : Round) × (done : List Exchange) × (text : List ℕ) × (exchanges : List Exchange) × (counted : Counted)
    × FinishesRun answers sure seed n old new round done text exchanges counted × WritesCut sink (text ++ line_after round counted)
ReachesStop answers sure seed n old new sink OutOfMemory =
    (round : Round) × (done : List Exchange) × (text : List ℕ) × (exchanges : List Exchange)
    × Reaches answers sure seed n old new round done text exchanges
    × IsRoundFront answers sure (edited_in round) (AskStatuses ∷ []) exchanges × Writes sink text

abbrev pub stop_status : Stop → ℕ
stop_status Full = 7
stop_status Cut = 4
stop_status OutOfMemory = 9

-- the sink is as it was
abbrev pub IsUntouched : Writing → Type 0
IsUntouched sink = (sink.written_then ≡ sink.written) × (sink.faults_then ≡ sink.faults)

-- what is written behind the lines
abbrev pub ReportsStop : Writing → Stop → Type 0
ReportsStop sink Full = WritesOrFails sink (codes "full: table\n")
ReportsStop sink Cut = IsUntouched sink
ReportsStop sink OutOfMemory = IsUntouched sink
