use Rattle.std.proofs.Common.{◌≡◌, take}
use Rattle.status_core.proofs.lines.copy_path.Given as goal

abbrev pub invariant-loop-at : goal.invariant-loop-at
invariant-loop-at l = l.copy.items ≡ take l.at-index l.path
