use Rattle.std.proofs.Common.{◌≡◌, ◌++◌, take}
use Rattle.std.specs.Map.{keys_of}
use Rattle.model_core.specs.Borrowed.{texts}
use Rattle.po_machine.proofs.names.add_keys.Given as goal

abbrev pub invariant-loop-pair : goal.invariant-loop-pair
invariant-loop-pair g l = texts l.found.items ≡ texts l.initial.found.items ++ keys_of (take l.pair-index l.pairs)
