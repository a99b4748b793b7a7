-- What a reader of lines has left, and what its calls do.
use Rattle.std.specs.Prelude.{◌≡◌, ℕ, Bool, true, false, List, [], ◌∷◌, ◌++◌, Option, None}
use Rattle.std.specs.Option.{option_to_list}
use Rattle.session_lines.specs.declared.command.Command.{Command}
use Rattle.session_lines.specs.Reading.{Fed, MayCome, commands_with}
use Rattle.session_words.specs.declared.line.Line.{Line}
use Rattle.session_words.specs.Lines.{IsLine}

-- a command that was read and not given, if there is one, and what was fed behind it
pub record Left : Type 0 where
  pub held : Option Command
  pub fed : Fed

-- the commands that are left where these bytes come, and where the input then has ended or not
abbrev pub commands_left : Left → List ℕ → Bool → List Command
commands_left left more ended = option_to_list left.held ++ commands_with left.fed more ended

-- whatever comes, the commands are the same
pub record KeepsLines (old new : Left) : Type 0 where
  pub ended : new.fed.ended ≡ old.fed.ended
  pub commands : (more : List ℕ) (ended : Bool) → MayCome old.fed.ended more ended → commands_left old more ended ≡ commands_left new more ended

-- whatever comes, a command that says this line is the first, and the others are left
pub record GivesLine (old : Left) (line : Line) (new : Left) : Type 0 where
  pub ended : new.fed.ended ≡ old.fed.ended
  pub command : Command
  pub line_is : IsLine command line
  pub commands : (more : List ℕ) (ended : Bool) → MayCome old.fed.ended more ended → commands_left old more ended ≡ command ∷ commands_left new more ended

-- no line is whole
pub record GivesNoLine (old new : Left) : Type 0 where
  pub none : commands_left old [] old.fed.ended ≡ []
  pub keeps : KeepsLines old new

-- what a reader has left that was fed nothing
abbrev pub nothing_left : Left
nothing_left = record { held = None; fed = record { left = []; ended = false; edit = None } }

-- What calls of a reader did, one after another: the bytes that it was fed, the lines that it gave, and what it has left.
pub data ReadsLines : List ℕ → List Line → Left → Type 0 where
  begins : ReadsLines [] [] nothing_left
  is_fed : {bytes : List ℕ} {lines : List Line} {old : Left} (piece : List ℕ) → ReadsLines bytes lines old → old.fed.ended ≡ false →
      ReadsLines (bytes ++ piece) lines (record old { fed = record old.fed { left = old.fed.left ++ piece } })
  ends : {bytes : List ℕ} {lines : List Line} {old : Left} → ReadsLines bytes lines old → ReadsLines bytes lines (record old { fed = record old.fed { ended = true } })
  gives : {bytes : List ℕ} {lines : List Line} {old : Left} (line : Line) (new : Left) → ReadsLines bytes lines old → GivesLine old line new →
      ReadsLines bytes (lines ++ line ∷ []) new
  keeps : {bytes : List ℕ} {lines : List Line} {old : Left} (new : Left) → ReadsLines bytes lines old → KeepsLines old new → ReadsLines bytes lines new
