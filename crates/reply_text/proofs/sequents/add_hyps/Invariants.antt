use Rattle.std.proofs.Common.{◌≡◌, ◌++◌, take}
use Rattle.std.specs.Prelude.{string_bytes}
use Rattle.reply_text.specs.Printing.{hyp_lines_after}
use Rattle.reply_text.proofs.sequents.add_hyps.Given as goal

abbrev pub invariant-loop-index : goal.invariant-loop-index
invariant-loop-index l = string_bytes l.out ≡ string_bytes l.initial.out ++ hyp_lines_after 0 (take l.index l.hyps)
