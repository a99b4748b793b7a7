use Rattle.std.proofs.Common.{◌≡◌, ◌++◌, take}
use Rattle.std.specs.Map.{keys_of}
use Rattle.model_core.specs.Borrowed.{texts}
use Rattle.po_refine.proofs.targets.add_valued.Given as goal

abbrev pub invariant-loop-value : goal.invariant-loop-value
invariant-loop-value l = texts l.found.items ≡ texts l.initial.found.items ++ keys_of (take l.value-index l.values)
