use Rattle.std.proofs.Common.{◌∙◌, sym, ap}
use Rattle.std.proofs.lemmas.List.{take_rest}
use Rattle.formula_core.specs.Texts.{begins_with_blank}
use Rattle.session_lines.proofs.Blanks.{one_behind}
use Rattle.session_lines.proofs.words.word_length.Goals as goal

pub loop-at-preserved : goal.loop-at-preserved
loop-at-preserved c =
    one_behind c.args.line.now c.loop-at.at c.loop-at-test.true
    (ap begins_with_blank (sym (take_rest c.args.line.now c.loop-at.at)) ∙ sym c.begins_with_blank.ensures ∙ c.if-begins_with_blank.false) c.loop-at.invariant
