use Rattle.std.proofs.Common.{◌+◌, take, ◌++◌}
use Rattle.std.specs.Prelude.{string_bytes, codes}
use Rattle.std.specs.Fmt.{decimal}
use Rattle.formula_print.specs.Printing.{formula_text}
use Rattle.reply_text.specs.Printing.{hyp_lines_after}
use Rattle.reply_text.specs.Statuses.{line}
use Rattle.reply_text.proofs.Hyps.{grows, hyp_added}
use Rattle.reply_text.proofs.sequents.add_hyps.Goals as goal

pub loop-index-preserved : goal.loop-index-preserved
loop-index-preserved c =
    let hyps = c.args.hyps.now in
    let at = c.loop-index.index in
    let hyp = c.index-hyps-index.result in
    grows (string_bytes c.add_hyp.new.out) (string_bytes c.loop-index.out) (string_bytes c.args.out.now) (hyp_lines_after 0 (take at hyps))
    (line (decimal (at + 1) ++ codes ": " ++ formula_text hyp)) (hyp_lines_after 0 (take (at + 1) hyps)) c.in_ok-add_hyp.ensures c.loop-index.invariant
    (hyp_added hyps at hyp c.loop-index-test.true c.index-hyps-index.is)
