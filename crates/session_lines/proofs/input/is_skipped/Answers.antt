use Rattle.std.proofs.Common.{◌||◌, take, sym, ap, ◌∙◌}
use Rattle.std.specs.Prelude.{bytes_eq, codes}
use Rattle.session_lines.specs.Words.{after_blanks}
use Rattle.session_lines.proofs.Blanks.{not_empty}
use Rattle.session_lines.proofs.input.is_skipped.Goals as goal

pub returns-else-is_empty : goal.returns-else-is_empty
returns-else-is_empty c =
    c.is_comment.ensures
    ∙ ap (λ b. b || bytes_eq (take 2 c.args.line.now) (codes "//"))
    (sym (not_empty c.after_blanks.result.now (after_blanks c.args.line.now) c.is_empty.result c.after_blanks.ensures c.is_empty.ensures c.if-is_empty.false))
