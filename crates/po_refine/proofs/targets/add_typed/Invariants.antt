use Rattle.std.proofs.Common.{◌≡◌, ◌++◌, take}
use Rattle.std.specs.Map.{keys_of}
use Rattle.model_core.specs.Borrowed.{texts}
use Rattle.po_refine.proofs.targets.add_typed.Given as goal

abbrev pub invariant-loop-identifier : goal.invariant-loop-identifier
invariant-loop-identifier l = texts l.found.items ≡ texts l.initial.found.items ++ keys_of (take l.identifier-index l.identifiers)
