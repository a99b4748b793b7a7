use Rattle.std.proofs.Common.{◌≡◌, take}
use Rattle.status_core.proofs.asking.copies.Given as goal

abbrev pub invariant-loop-fault : goal.invariant-loop-fault
invariant-loop-fault l = l.copies.items ≡ take l.fault-index l.faults
