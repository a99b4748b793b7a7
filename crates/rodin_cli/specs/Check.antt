-- What `check` did: its status, its history, and what it read and wrote.
use Rattle.std.specs.Prelude.{◌≡◌, ◌⊎◌, ℕ, ◌≤◌, ◌<◌, List, [], ◌∷◌, length, map, fold, codes, String, string_bytes, Option, Some, Ok, Err}
use Rattle.std.specs.List.{AllZip}
use Rattle.std.specs.FinMap.{empty, get, insert}
use Rattle.std.specs.declared.alloc.Global.{Global}
use Rattle.sequent_core.specs.declared.Sequent.{Sequent}
use Rattle.sequent_core.specs.declared.Obligation.{Obligation}
use Rattle.sequent_core.specs.declared.Attempt.{Attempt}
use Rattle.sequent_core.specs.Trees.{Derives}
use Rattle.build_core.specs.declared.FaultLine.{FaultLine}
use Rattle.proof_entries.specs.declared.Origin.{Origin}
use Rattle.proof_entries.specs.declared.Proof.{Proof}
use Rattle.core_steps.specs.declared.Durable.{Durable}
use Rattle.core_steps.specs.declared.Status.{Status}
use Rattle.core_steps.specs.declared.Status.TheVariants.{Discharged}
use Rattle.core_steps.specs.Durable.{ProjectMap}
use Rattle.core_steps.specs.Status.{IsRebuilt}
use Rattle.core_steps.specs.Faults.{AreFaults, AreWarnings}
use Rattle.core_steps.specs.Table.{IsTable}
use Rattle.core_steps.specs.State.{State, opened, no_texts, after}
use Rattle.core_steps.specs.Run.{Exchange, Runs, IsLegal, history_of}
use Rattle.true_marks.specs.TrueMarks.{AreTrueMarks}
use Rattle.rodin_cli.specs.declared.outcome.Part.{Part}
use Rattle.session_streams.specs.Streams.{SourceState, Writing, SourceFailed, Writes, WritesCut, WritesNothing}
use Rattle.session_ends.specs.Written.{WritesOrFails}
use Rattle.rodin_cli.specs.Streams.{TakesBytes, IsAtInputEnd}
use Rattle.rodin_cli.specs.Texts.{printed_lines}
use Rattle.check_input.specs.Inputs.{Component, IsInput}
use Rattle.check_input.specs.Lines.{input_line}
use Rattle.check_input.specs.declared.input.InputFault.{InputFault}
use Rattle.rodin_cli.specs.Script.{IsWholeScript, IsFront, IsFullScript}
use Rattle.session_run.specs.Completeness.{LeavesNothingSure}

-- The exchanges are a legal run from the empty project. They are the history, and what lasts is the fold of their
-- entries.
pub record LeadsToPart (part : Part) (exchanges : List Exchange) : Type 0 where
  pub state : State
  pub run : Runs (opened no_texts) exchanges state
  pub legal : IsLegal exchanges
  pub history : part.history.items ≡ history_of 0 exchanges
  pub last : part.last ≡ after no_texts (map (λ x. x.entry) exchanges)

-- The status guarantee, its second sentence: every obligation shown discharged has a stored proof that derives its
-- present sequent.
abbrev pub IsProved : Durable → List (List ℕ × Status × Option Origin) → Type 0
IsProved d shown =
    (table : List Obligation) × IsTable d.built table
    × AllZip (λ o mark. (mark.0 ≡ o.name)
    × (mark.1 ≡ Discharged → (proof : Proof) × (get d.proofs o.name ≡ Some proof) × Derives proof.tree o.sequent)) table shown

-- the faults that are told are those of the texts of the last build
abbrev pub TellsFaults : Durable → List FaultLine → Type 0
TellsFaults d told = AreFaults d.built told

-- the warnings that are told are those of the texts of the last build
abbrev pub TellsWarnings : Durable → List (List ℕ × List ℕ) → Type 0
TellsWarnings d warned = AreWarnings d.built warned

-- one more component in a project
abbrev pub with_component : ProjectMap → Component → ProjectMap
with_component texts part = insert texts part.0 part.1

-- the project of these components
abbrev pub project_of : List Component → ProjectMap
project_of parts = fold with_component empty parts

-- the status of an answer that is written: 1 where a fault is told
abbrev pub check_status : List FaultLine → ℕ
check_status [] = 0
check_status (f ∷ told) = 1

-- the input has these components, the run is whole, they are what is built, and the faults and warnings that it tells and the statuses that it
-- shows are written. The status guarantee, its first sentence: the statuses shown are those of a clean rebuild.
pub record IsAnswered (answers : Sequent → Attempt → Type 0) (sure : Sequent → Type 0) (bytes : List ℕ) (sink : Writing) (part : Part) : Type 0 where
  pub parts : List Component
  pub made : IsInput bytes (Ok parts)
  pub exchanges : List Exchange
  pub told : List FaultLine
  pub warned : List (List ℕ × List ℕ)
  pub shown : List (List ℕ × Status × Option Origin)
  pub whole : IsWholeScript answers sure parts told warned shown exchanges
  pub leads : LeadsToPart part exchanges
  pub built : part.last.built ≡ project_of parts
  pub faults : TellsFaults part.last told
  pub warnings : TellsWarnings part.last warned
  pub clean : IsRebuilt part.last shown
  pub proved : IsProved part.last shown
  pub true_marks : AreTrueMarks part.last.built shown
  pub complete : LeavesNothingSure sure part.last exchanges
  pub text : ((part.status ≡ check_status told) × Writes sink (printed_lines told warned shown)) ⊎ ((part.status ≡ 4) × WritesCut sink (printed_lines told warned shown))

-- nothing was done
abbrev pub HasNoHistory : Part → Type 0
HasNoHistory part = (part.history.items ≡ []) × (part.last ≡ no_texts)

-- the last line alone is written, and nothing was done
pub record EndsWithLine (status : ℕ) (line : List ℕ) (sink : Writing) (part : Part) : Type 0 where
  pub status_is : part.status ≡ status
  pub nothing : HasNoHistory part
  pub text : WritesOrFails sink line

-- the table of the input's components is too large: they were edited, the build was refused, and the last line says so
pub record IsTooFull (bytes : List ℕ) (sink : Writing) (part : Part) : Type 0 where
  pub parts : List Component
  pub made : IsInput bytes (Ok parts)
  pub exchanges : List Exchange
  pub full : IsFullScript parts exchanges
  pub leads : LeadsToPart part exchanges
  pub status_is : part.status ≡ 7
  pub text : WritesOrFails sink (codes "full: table\n")

-- memory ran out: the history is a front of one of `check`, and nothing is written
pub record RanOut (answers : Sequent → Attempt → Type 0) (sure : Sequent → Type 0) (bytes : List ℕ) (sink : Writing) (part : Part) : Type 0 where
  pub status_is : part.status ≡ 9
  pub exchanges : List Exchange
  pub front : (exchanges ≡ []) ⊎ ((parts : List Component) × IsInput bytes (Ok parts) × IsFront answers sure parts exchanges)
  pub leads : LeadsToPart part exchanges
  pub text : WritesNothing sink

-- the input was read: to its end, or its first 67,108,865 bytes
pub record IsWholeInput (bytes : List ℕ) (source : SourceState) : Type 0 where
  pub taken : TakesBytes source bytes
  pub most : length bytes ≤ 67108865
  pub ended : length bytes ≤ 67108864 → IsAtInputEnd source

-- a front of the input was read
abbrev pub IsReadInPart : SourceState → Type 0
IsReadInPart source = (bytes : List ℕ) × TakesBytes source bytes

module _ (answers : Sequent → Attempt → Type 0) (sure : Sequent → Type 0) where
  -- What comes of an input of these bytes: the answer, the last line where its table is too large or something is wrong
  -- with the input, or out of memory.
  pub data ComesOf (bytes : List ℕ) (sink : Writing) (part : Part) : Type 0 where
    an_answer : (answered : IsAnswered answers sure bytes sink part) → ComesOf bytes sink part
    a_full_table : (full : IsTooFull bytes sink part) → ComesOf bytes sink part
    a_bad_input : (fault : InputFault) (made : IsInput bytes (Err fault)) (ends : EndsWithLine 1 (input_line fault) sink part) → ComesOf bytes sink part
    want_of_memory : (lacking : RanOut answers sure bytes sink part) → ComesOf bytes sink part

  -- The input was read and answered; or it has more than 67,108,864 bytes; or the source failed; or memory ran out while
  -- it was read.
  pub data RunsCheck (source : SourceState) (sink : Writing) (part : Part) : Type 0 where
    answers_input : (bytes : List ℕ) (read : IsWholeInput bytes source) (fits : length bytes ≤ 67108864) (comes : ComesOf bytes sink part) → RunsCheck source sink part
    refuses_long_input : (bytes : List ℕ) (read : IsWholeInput bytes source) (long : 67108864 < length bytes) (ends : EndsWithLine 7 (codes "full: input\n") sink part)
        → RunsCheck source sink part
    meets_read_fault : (failed : SourceFailed source) (read : IsReadInPart source) (ends : EndsWithLine 3 (codes "input: read fault\n") sink part) → RunsCheck source sink part
    runs_out_reading : (read : IsReadInPart source) (status_is : part.status ≡ 9) (nothing : HasNoHistory part) (unwritten : WritesNothing sink) → RunsCheck source sink part

-- The exit statuses with which `check` has read its input to the end: nothing is wrong with the input, something is, or
-- the answer is cut.
pub data ReadsToEnd (status : ℕ) : Type 0 where
  input_clean : status ≡ 0 → ReadsToEnd status
  input_faulty : status ≡ 1 → ReadsToEnd status
  answer_cut : status ≡ 4 → ReadsToEnd status

-- The exit statuses of a `check` whose source and sink didn't fail.
pub data IsUnfailedCheckStatus (status : ℕ) : Type 0 where
  check_clean : status ≡ 0 → IsUnfailedCheckStatus status
  check_faulty : status ≡ 1 → IsUnfailedCheckStatus status
  check_too_large : status ≡ 7 → IsUnfailedCheckStatus status
  check_without_memory : status ≡ 9 → IsUnfailedCheckStatus status

-- the usage line, as the last one
abbrev pub usage_line : List ℕ
usage_line = codes "usage: rodin check | rodin session WORKERS | rodin demo SEED N\n"

-- the one word `check`
abbrev pub IsCheckWords : List (String Global) → Type 0
IsCheckWords words = map string_bytes words ≡ codes "check" ∷ []
