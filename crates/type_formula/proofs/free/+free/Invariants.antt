use Rattle.std.proofs.Common.{◌≡◌, ◌++◌, map, drop}
use Rattle.formula_core.specs.Formulas.{joined}
use Rattle.type_formula.specs.CoreForms.{free_names}
use Rattle.type_formula.proofs.free.+free.Given as goal

abbrev pub invariant-collect_all-loop-part : goal.invariant-collect_all-loop-part
invariant-collect_all-loop-part l =
    l.found.items ++ joined (map free_names (drop l.part-index l.parts)) ≡ l.initial.found.items ++ joined (map free_names l.parts)
