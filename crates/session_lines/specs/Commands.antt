-- The commands of an input.
use Rattle.std.specs.Prelude.{ℕ, Bool, true, false, ◌||◌, ◌==◌, nat_lt, List, [], ◌∷◌, ◌++◌, length, take, map, bytes_eq, codes, Option, Some, None, if◌then◌else◌}
use Rattle.std.specs.Str.Lines.{strip_carriage_return}
use Rattle.session_lines.specs.declared.command.Command.{Command}
use Rattle.session_lines.specs.declared.command.Command.TheVariants.{Line, LineTooLong, Edit, CutEdit}
use Rattle.session_lines.specs.Words.{after_blanks, first_word, behind_word}

-- LINES OF BYTES

-- a byte before lines and what stands behind them
abbrev pub put_byte : ℕ → List (List ℕ) → List ℕ → List (List ℕ) × List ℕ
put_byte b [] rest = ([], b ∷ rest)
put_byte b (line ∷ lines) rest = ((b ∷ line) ∷ lines, rest)

-- the lines that a line feed ends, each without it, and what stands behind the last of these
abbrev pub cut_lines : List ℕ → List (List ℕ) × List ℕ
cut_lines [] = ([], [])
cut_lines (b ∷ bytes) = if b == 10 then ([] ∷ (cut_lines bytes).0, (cut_lines bytes).1) else put_byte b (cut_lines bytes).0 (cut_lines bytes).1

-- where the input ended, what stands behind the last line feed is a line too
abbrev pub last_line : Bool → List ℕ → List (List ℕ)
last_line ended [] = []
last_line ended (b ∷ rest) = if ended then (b ∷ rest) ∷ [] else []

-- the lines of the bytes: those that a line feed ends, without a carriage return before it, and the unfinished last one
-- where the input ended
abbrev pub text_lines : List ℕ → Bool → List (List ℕ)
text_lines bytes ended = map strip_carriage_return (cut_lines bytes).0 ++ last_line ended (cut_lines bytes).1

-- COMMANDS

-- an edit whose text isn't whole yet: the word in the name's place, and the text so far
abbrev pub EditSoFar : Type 0
EditSoFar = List ℕ × List ℕ

-- what a line gives: a command, if it ends one, and the edit that is open behind it, if there is one
pub record Given : Type 0 where
  pub command : Option Command
  pub edit : Option EditSoFar

-- a blank line, or one that begins with two slashes
abbrev pub is_skipped : List ℕ → Bool
is_skipped line = bytes_eq (after_blanks line) [] || bytes_eq (take 2 line) (codes "//")

-- the first word, where there is one and nothing but blanks follows it
abbrev pub only_word : List ℕ → Option (List ℕ)
only_word [] = None
only_word (c ∷ line) = if bytes_eq (after_blanks (behind_word (c ∷ line))) [] then Some (first_word (c ∷ line)) else None

-- the word behind the word `edit`, where the line has just these two
abbrev pub edited_word : List ℕ → Option (List ℕ)
edited_word line = if bytes_eq (first_word line) (codes "edit") then only_word (after_blanks (behind_word line)) else None

abbrev pub opened_or_line : List ℕ → Option (List ℕ) → Given
opened_or_line line None = record { command = Some (Line line); edit = None }
opened_or_line line (Some word) = record { command = None; edit = Some (word, []) }

-- where no edit is open
abbrev pub given_outside : List ℕ → Given
given_outside line =
    if is_skipped line then record { command = None; edit = None }
    else (if nat_lt 4096 (length line) then record { command = Some LineTooLong; edit = None }
    else opened_or_line line (edited_word (after_blanks line)))

-- inside an edit: a line that is a dot ends the text
abbrev pub given_inside : List ℕ → EditSoFar → Given
given_inside line edit =
    if bytes_eq line (codes ".") then record { command = Some (Edit edit.0 edit.1); edit = None }
    else record { command = None; edit = Some (edit.0, edit.1 ++ line ++ 10 ∷ []) }

abbrev pub given : List ℕ → Option EditSoFar → Given
given line None = given_outside line
given line (Some edit) = given_inside line edit

abbrev pub with_first : Option Command → List Command → List Command
with_first None commands = commands
with_first (Some command) commands = command ∷ commands

-- The commands of these lines, behind an edit that is open, if there is one. One that the end of the input cuts off is the
-- last command.
abbrev pub commands_of : Bool → List (List ℕ) → Option EditSoFar → List Command
commands_of ended [] None = []
commands_of ended [] (Some edit) = if ended then CutEdit ∷ [] else []
commands_of ended (line ∷ lines) edit = with_first (given line edit).command (commands_of ended lines (given line edit).edit)

-- The commands in these bytes. Where the input has not ended, they are those that are whole.
abbrev pub commands_in : List ℕ → Bool → List Command
commands_in bytes ended = commands_of ended (text_lines bytes ended) None
