use Rattle.std.proofs.Common.{◌≡◌, map, take}
use Rattle.type_formula.specs.CoreForms.{core_form}
use Rattle.type_formula.specs.Views.{bare_of}
use Rattle.type_action.proofs.values.read_all.Given as goal

abbrev pub invariant-loop-value : goal.invariant-loop-value
invariant-loop-value l = map bare_of l.trees.items ≡ map core_form (take l.value-index l.values)
