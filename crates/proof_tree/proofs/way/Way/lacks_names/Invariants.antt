use Rattle.std.proofs.Common.{◌≡◌, take, None}
use Rattle.std.specs.List.{AllByRecursion}
use Rattle.formula_core.specs.Env.{type_in}
use Rattle.proof_tree.specs.Ways.{antecedents_of}
use Rattle.sequent_core.specs.Trees.{at_end}
use Rattle.proof_tree.proofs.way.Way.lacks_names.Given as goal

abbrev pub invariant-loop-identifier : goal.invariant-loop-identifier
invariant-loop-identifier l = AllByRecursion (λ x. type_in (at_end (antecedents_of l.self) l.sequent).env x.0 ≡ None) (take l.identifier-index l.identifiers)
