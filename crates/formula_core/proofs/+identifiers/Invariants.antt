use Rattle.std.proofs.Common.{◌≡◌, ◌++◌, map, drop}
use Rattle.formula_core.specs.Formulas.{joined}
use Rattle.formula_core.specs.Identifiers.{identifiers}
use Rattle.formula_core.proofs.+identifiers.Given as goal

abbrev pub invariant-identifiers::add_identifiers_of_all-loop-item : goal.invariant-identifiers::add_identifiers_of_all-loop-item
invariant-identifiers::add_identifiers_of_all-loop-item l =
    l.found.items ++ joined (map identifiers (drop l.item-index l.items)) ≡ l.initial.found.items ++ joined (map identifiers l.items)
