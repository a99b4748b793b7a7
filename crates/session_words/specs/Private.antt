-- The rows of a table of commands, and the line of the command that a reader holds.
use Rattle.std.specs.Prelude.{⊤, Option, Some, None, ℕ, List, map}
use Rattle.std.specs.Borrow.{Bor}
use Rattle.session_lines.specs.declared.command.Command.{Command}
use Rattle.session_words.specs.declared.line.Line.{Line}
use Rattle.session_words.specs.Lines.{IsLine}
use Rattle.session_words.specs.declared.verbs.Verb.{Verb}

-- a line of the command, if there is one, and else none
abbrev pub IsLineOf : Option Command → Option Line → Type 0
IsLineOf None None = ⊤
IsLineOf None (Some line) = ⊥
IsLineOf (Some command) None = ⊥
IsLineOf (Some command) (Some line) = IsLine command line

-- each command with the word that names it
abbrev pub verb_rows : List (Bor (List ℕ) × Verb) → List (List ℕ × Verb)
verb_rows table = map (λ row. (row.0.now, row.1)) table
