use Rattle.std.proofs.Common.{◌≡◌, [], fold, map, drop}
use Rattle.formula_core.specs.Formulas.{joined}
use Rattle.type_formula.specs.Unknowns.{earlier_name, unknowns}
use Rattle.type_formula.specs.Views.{bare_of}
use Rattle.type_action.proofs.values.keep_unknowns.Given as goal

abbrev pub invariant-loop-tree : goal.invariant-loop-tree
invariant-loop-tree l =
    fold earlier_name l.found (joined (map (unknowns l.env [] []) (map bare_of (drop l.tree-index l.trees)))) ≡ fold earlier_name l.initial.found (joined (map (unknowns l.env [] []) (map bare_of l.trees)))
