use Rattle.std.proofs.Common.{◌≡◌, ◌∙◌, ap, sym, ℕ, List, [], ◌∷◌, ◌++◌, append_assoc}
use Rattle.std.specs.Prelude.{codes}
use Rattle.std.specs.Fmt.{decimal}
use Rattle.check_input.specs.Lines.{at_line, input_line}
use Rattle.check_input.proofs.telling.input_line.Goals as goal

from_front : (line : ℕ) (words : List ℕ) → at_line line words ≡ codes "input: line " ++ (decimal line ++ (codes ": " ++ (words ++ 10 ∷ [])))
from_front line words = simp append_assoc

pub returns-in_ok-format-in-Second : goal.returns-in_ok-format-in-Second
returns-in_ok-format-in-Second c =
    let words = ap (λ name. codes "input: line " ++ (decimal c.in-Second.line ++ (codes ": second " ++ (name ++ 10 ∷ [])))) c.as_text-name.ensures.text in
    record { line = c.in_ok-format-in-Second.ensures.ok ∙ (words ∙ (sym (from_front c.in-Second.line (codes "second " ++ c.in-Second.name)) ∙ ap input_line (sym c.in-Second.is))) }

pub returns-in_ok-format-in-TooMany : goal.returns-in_ok-format-in-TooMany
returns-in_ok-format-in-TooMany c =
    record { line = c.in_ok-format-in-TooMany.ensures.ok ∙ (sym (from_front c.in-TooMany.line (codes "more than 256 components")) ∙ ap input_line (sym c.in-TooMany.is)) }

pub returns-in_ok-format-in-TextTooLong : goal.returns-in_ok-format-in-TextTooLong
returns-in_ok-format-in-TextTooLong c =
    record { line = c.in_ok-format-in-TextTooLong.ensures.ok ∙ (sym (from_front c.in-TextTooLong.line (codes "text too long")) ∙ ap input_line (sym c.in-TextTooLong.is)) }
