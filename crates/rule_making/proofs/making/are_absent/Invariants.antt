use Rattle.std.proofs.Common.{◌≡◌, take, None}
use Rattle.std.specs.List.{AllByRecursion}
use Rattle.formula_core.specs.Env.{type_in}
use Rattle.rule_making.proofs.making.are_absent.Given as goal

abbrev pub invariant-loop-identifier : goal.invariant-loop-identifier
invariant-loop-identifier l = AllByRecursion (λ x. type_in l.env x.0 ≡ None) (take l.identifier-index l.identifiers)
