use Rattle.std.proofs.Common.{sym, ap, ◌∙◌}
use Rattle.session_lines.specs.Words.{after_blanks}
use Rattle.session_lines.proofs.Blanks.{no_word, more_words}
use Rattle.session_lines.proofs.input.only_word.Goals as goal
use Rattle.session_lines.proofs.input.only_word.Goals.{then-is_empty-via-then-is_empty, then-is_empty-via-else-is_empty+then-not-is_empty}

pub returns-then-is_empty : goal.returns-then-is_empty
returns-then-is_empty c = elim c.then-is_empty.branch [
  | then-is_empty-via-then-is_empty w ↦ sym (no_word c.args.line.now c.is_empty.result c.is_empty.ensures w.if-is_empty.true)
  | then-is_empty-via-else-is_empty+then-not-is_empty w ↦
      sym (more_words c.args.line.now w.after_blanks.result.now w.is_empty-else-is_empty.result (w.after_blanks.ensures ∙ ap after_blanks w.behind_word.ensures)
      w.is_empty-else-is_empty.ensures w.if-not-is_empty.true)
]
