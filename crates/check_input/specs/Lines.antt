-- What is printed of an input's fault.
use Rattle.std.specs.Prelude.{ℕ, List, [], ◌∷◌, ◌++◌, codes}
use Rattle.std.specs.Fmt.{decimal}
use Rattle.check_input.specs.declared.input.InputFault.{InputFault}
use Rattle.check_input.specs.declared.input.InputFault.TheVariants as fault

-- what is wrong at a line, in words
abbrev pub at_line : ℕ → List ℕ → List ℕ
at_line line words = codes "input: line " ++ decimal line ++ codes ": " ++ words ++ 10 ∷ []

-- the last line of a program that refuses the input, with its line feed
abbrev pub input_line : InputFault → List ℕ
input_line fault.NotUtf8 = codes "input: not UTF-8" ++ 10 ∷ []
input_line fault.NoHeading = codes "input: line 1: no heading" ++ 10 ∷ []
input_line (fault.Second line name) = at_line line (codes "second " ++ name)
input_line (fault.TooMany line) = at_line line (codes "more than 256 components")
input_line (fault.TextTooLong line) = at_line line (codes "text too long")
