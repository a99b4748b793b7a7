use Rattle.std.proofs.Common.{◌≡◌, ◌++◌, take}
use Rattle.po_machine.specs.Private.{wanted_of}
use Rattle.po_machine.proofs.changes.add_values.Given as goal

abbrev pub invariant-loop-pair : goal.invariant-loop-pair
invariant-loop-pair l = l.out.items ≡ l.initial.out.items ++ wanted_of l.wanted (take l.pair-index l.pairs)
