use Rattle.std.proofs.Common.{◌≡◌, map, take}
use Rattle.type_formula.specs.CoreForms.{core_form}
use Rattle.type_formula.specs.PrivateViews.{bound_part, bound_of}
use Rattle.type_formula.specs.Views.{bare_of}
use Rattle.type_formula.proofs.reading.+read.Given as goal

abbrev pub invariant-read_all-loop-part : goal.invariant-read_all-loop-part
invariant-read_all-loop-part l = map bare_of l.trees.items ≡ map core_form (take l.part-index l.parts)

abbrev pub invariant-read_bound-loop-b : goal.invariant-read_bound-loop-b
invariant-read_bound-loop-b l = map bound_of l.names.items ≡ map bound_part (take l.b-index l.bound)
