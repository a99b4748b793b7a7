use Rattle.std.proofs.Common.{◌≡◌, [], fold}
use Rattle.type_formula.specs.CoreForms.{with_new_name}
use Rattle.type_formula.proofs.free.each_once.Given as goal

abbrev pub invariant-loop-name : goal.invariant-loop-name
invariant-loop-name l = fold with_new_name l.kept.items l.name-iterator.rest.items ≡ fold with_new_name [] l.fn.names.items
