use Rattle.std.proofs.Common.{◌≡◌, ◌++◌, map, drop}
use Rattle.formula_core.specs.Formulas.{joined}
use Rattle.formula_core.specs.Identifiers.{carriers}
use Rattle.formula_core.proofs.identifiers.add_carriers_of_all.Given as goal

abbrev pub invariant-loop-ty : goal.invariant-loop-ty
invariant-loop-ty l = l.found.items ++ joined (map carriers (drop l.ty-index l.types)) ≡ l.initial.found.items ++ joined (map carriers l.types)
