-- What a reader of commands has left, and what its calls do.
use Rattle.std.specs.Prelude.{◌≡◌, ℕ, Bool, true, List, [], ◌∷◌, ◌++◌, Option}
use Rattle.session_lines.specs.declared.command.Command.{Command}
use Rattle.session_lines.specs.Commands.{EditSoFar, text_lines, commands_of}

-- the bytes that were fed and whose lines weren't read, whether the input ended, and the edit that is open
pub record Fed : Type 0 where
  pub left : List ℕ
  pub ended : Bool
  pub edit : Option EditSoFar

-- the commands that are read where these bytes come, and where the input then has ended or not
abbrev pub commands_with : Fed → List ℕ → Bool → List Command
commands_with fed more ended = commands_of ended (text_lines (fed.left ++ more) ended) fed.edit

-- more bytes may come, and after them the end; behind the end nothing comes
abbrev pub MayCome : Bool → List ℕ → Bool → Type 0
MayCome has_ended more ended = has_ended ≡ true → (more ≡ []) × (ended ≡ true)

-- whatever comes, the commands are the same
pub record IsSameReading (old new : Fed) : Type 0 where
  pub ended : new.ended ≡ old.ended
  pub commands : (more : List ℕ) (ended : Bool) → MayCome old.ended more ended → commands_with old more ended ≡ commands_with new more ended

-- whatever comes, this command is the first, and the others are left
pub record GivesCommand (old : Fed) (command : Command) (new : Fed) : Type 0 where
  pub ended : new.ended ≡ old.ended
  pub commands : (more : List ℕ) (ended : Bool) → MayCome old.ended more ended → commands_with old more ended ≡ command ∷ commands_with new more ended

-- no command is whole
pub record GivesNone (old new : Fed) : Type 0 where
  pub none : commands_with old [] old.ended ≡ []
  pub same : IsSameReading old new
