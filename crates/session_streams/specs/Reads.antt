-- What of an input was read, and what a reader of its lines has left.
use Rattle.std.specs.Prelude.{◌≡◌, ◌≤◌, ⊤, ℕ, Bool, true, false, List, [], ◌∷◌, ◌++◌, length, take, Option}
use Rattle.std.specs.List.{AllZip}
use Rattle.std.specs.Io.KnownBytes.{Consumes, IsAtEnd}
use Rattle.session_lines.specs.declared.command.Command.{Command}
use Rattle.session_lines.specs.Commands.{commands_in}
use Rattle.session_lines.specs.Reading.{MayCome}
use Rattle.session_words.specs.declared.line.Line.{Line}
use Rattle.session_words.specs.Lines.{IsLine}
use Rattle.session_words.specs.Reading.{nothing_left, commands_left}
use Rattle.outside.specs.Cause.{Rose}
use Rattle.session_streams.specs.declared.reading.Reader.{Reader}
use Rattle.session_streams.specs.declared.reading.ReadEnd.{ReadEnd}
use Rattle.session_streams.specs.declared.reading.ReadEnd.TheVariants.{Ended, ReadFault, FullInput, OutOfMemory}

-- WHAT WAS READ

-- The bytes that were taken from a source, the first 67,108,864 of which count, and one more at most; the lines that
-- the first commands in them say; and the commands that are left. Where the input ended, its source has answered its
-- end.
pub record HasRead
    (first last : Option (List ℕ)) (taken : List ℕ) (ended : Bool) (lines : List Line) (left : List Command) :
    Type 0 where
  pub takes : Consumes first last taken
  pub most : length taken ≤ 67108865
  pub at_end : ended ≡ true → IsAtEnd last
  pub within : ended ≡ true → length taken ≤ 67108864
  pub given : List Command
  pub in_order : commands_in (take 67108864 taken) ended ≡ given ++ left
  pub say : AllZip IsLine given lines

-- the first of these commands says this line
abbrev pub IsNextLine : List Command → Line → Type 0
IsNextLine left line = (command : Command) × (rest : List Command) × (left ≡ command ∷ rest) × IsLine command line

-- why no more lines were read: the input ended; its source failed; the first 67,108,864 bytes were read, and one more;
-- or memory ran out
abbrev pub IsReadEnd : ReadEnd → ℕ → ℕ → List ℕ → Bool → List Command → Type 0
IsReadEnd Ended faults faults_then taken ended left = (ended ≡ true) × (left ≡ [])
IsReadEnd ReadFault faults faults_then taken ended left = Rose faults faults_then × (ended ≡ false) × (left ≡ [])
IsReadEnd FullInput faults faults_then taken ended left = (length taken ≡ 67108865) × (ended ≡ false) × (left ≡ [])
IsReadEnd OutOfMemory faults faults_then taken ended left = ⊤

-- WHAT A READER DOES

-- nothing was read
abbrev pub IsUnread : Reader → Type 0
IsUnread reader = (reader.taken ≡ 0) × (reader.ended ≡ false) × (reader.commands ≡ nothing_left)

-- These bytes were taken from the source, and these lines given; whatever comes, the reader has the others.
pub record IsReading (first now : Option (List ℕ)) (taken : List ℕ) (lines : List Line) (reader : Reader) : Type 0 where
  pub takes : Consumes first now taken
  pub count : length taken ≡ reader.taken
  pub most : length taken ≤ 67108865
  pub same : reader.commands.fed.ended ≡ reader.ended
  pub at_end : reader.ended ≡ true → IsAtEnd now
  pub within : reader.ended ≡ true → length taken ≤ 67108864
  pub given : List Command
  pub say : AllZip IsLine given lines
  pub commands : (more : List ℕ) (ended : Bool) → MayCome reader.ended more ended →
      commands_in (take 67108864 taken ++ more) ended ≡ given ++ commands_left reader.commands more ended

-- more bytes were taken, and these lines given
abbrev pub ReadsOn : Option (List ℕ) → Reader → Option (List ℕ) → Reader → List Line → Type 0
ReadsOn before old now new given =
    (first : Option (List ℕ)) (taken : List ℕ) (lines : List Line) → IsReading first before taken lines old →
    (more : List ℕ) × IsReading first now (taken ++ more) (lines ++ given) new

-- after so much was read the reading ends so
pub record HasEnded
    (first now : Option (List ℕ)) (taken : List ℕ) (lines : List Line) (end : ReadEnd) (faults faults_then : ℕ) :
    Type 0 where
  pub more : List ℕ
  pub ended : Bool
  pub left : List Command
  pub read : HasRead first now (taken ++ more) ended lines left
  pub why : IsReadEnd end faults faults_then (taken ++ more) ended left

abbrev pub EndsReading : Option (List ℕ) → Reader → Option (List ℕ) → ReadEnd → ℕ → ℕ → Type 0
EndsReading before old now end faults faults_then =
    (first : Option (List ℕ)) (taken : List ℕ) (lines : List Line) → IsReading first before taken lines old →
    HasEnded first now taken lines end faults faults_then
