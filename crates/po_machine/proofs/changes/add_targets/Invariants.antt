use Rattle.std.proofs.Common.{◌≡◌, ◌++◌, take}
use Rattle.po_machine.specs.Private.{wanted_of}
use Rattle.po_machine.proofs.changes.add_targets.Given as goal

abbrev pub invariant-loop-target : goal.invariant-loop-target
invariant-loop-target l = l.out.items ≡ l.initial.out.items ++ wanted_of l.wanted (take l.target-index l.targets)
