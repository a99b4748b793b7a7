use Rattle.std.proofs.Common.{◌≡◌, ◌++◌, take}
use Rattle.model_core.specs.Borrowed.{texts}
use Rattle.po_machine.proofs.names.add_names.Given as goal

abbrev pub invariant-loop-name : goal.invariant-loop-name
invariant-loop-name l = texts l.found.items ≡ texts l.initial.found.items ++ take l.name-index l.names
