use Rattle.std.proofs.Common.{◌≡◌, take}
use Rattle.status_core.proofs.asking.copy_warnings.Given as goal

abbrev pub invariant-loop-machine : goal.invariant-loop-machine
invariant-loop-machine l = l.copies.items ≡ take l.machine-index l.warnings
