use Rattle.std.proofs.Common.{◌≡◌, ◌++◌}
use Rattle.type_formula.specs.CoreForms.{without}
use Rattle.type_formula.proofs.free.add_others.Given as goal

abbrev pub invariant-loop-name : goal.invariant-loop-name
invariant-loop-name l = l.found.items ++ without l.bound l.name-iterator.rest.items ≡ l.initial.found.items ++ without l.bound l.fn.names.items
