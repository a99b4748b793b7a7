-- The lines of the session language in an input.
use Rattle.std.specs.Prelude.{◌≡◌, ℕ, Bool, not, nat_lt, List, length, codes, if◌then◌else◌}
use Rattle.std.specs.List.{AllZip}
use Rattle.std.specs.Str.{is_utf8}
use Rattle.formula_core.specs.Names.{is_identifier}
use Rattle.session_lines.specs.declared.command.Command.{Command}
use Rattle.session_lines.specs.declared.command.Command.TheVariants as command
use Rattle.session_lines.specs.Commands.{commands_in}
use Rattle.core_steps.specs.declared.Event.TheVariants as event
use Rattle.session_words.specs.declared.line.Line.{Line}
use Rattle.session_words.specs.declared.line.Line.TheVariants.{One, Refused, CutEdit}
use Rattle.session_words.specs.declared.line.LineFault.{LineFault}
use Rattle.session_words.specs.declared.line.LineFault.TheVariants.{BadCommand, LineTooLong, BadName, TextTooLong, NotText}
use Rattle.session_words.specs.Says.{Says}

-- an edit of a text under a word, which is to be a component's name
abbrev pub edited : List ℕ → List ℕ → Line
edited word text =
    if not (is_identifier word) then Refused BadName
    else (if nat_lt 65536 (length text) then Refused TextTooLong
    else (if not (is_utf8 text) then Refused NotText
    else One (event.Edit word text)))

-- the words that stand behind `refused: `
abbrev pub line_fault_words : LineFault → List ℕ
line_fault_words BadCommand = codes "bad command"
line_fault_words LineTooLong = codes "line too long"
line_fault_words BadName = codes "bad name"
line_fault_words TextTooLong = codes "text too long"
line_fault_words NotText = codes "text is not UTF-8"

-- what a command says
abbrev pub IsLine : Command → Line → Type 0
IsLine (command.Line bytes) line = Says bytes line
IsLine command.LineTooLong line = line ≡ Refused LineTooLong
IsLine (command.Edit word text) line = line ≡ edited word text
IsLine command.CutEdit line = line ≡ CutEdit

-- The lines in these bytes. Where the input has not ended, they are those that are whole.
abbrev pub AreLines : List ℕ → Bool → List Line → Type 0
AreLines bytes ended lines = AllZip IsLine (commands_in bytes ended) lines
