use Rattle.std.proofs.Common.{◌≡◌, ◌++◌, take}
use Rattle.std.specs.Prelude.{string_bytes}
use Rattle.reply_text.specs.Faults.{warning_lines}
use Rattle.reply_text.proofs.faults.add_warnings.Given as goal

abbrev pub invariant-loop-machine : goal.invariant-loop-machine
invariant-loop-machine l = string_bytes l.out ≡ string_bytes l.initial.out ++ warning_lines (take l.machine-index l.warned)
