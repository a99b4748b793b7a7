use Rattle.std.proofs.Common.{◌≡◌, ◌++◌, map, take}
use Rattle.po_rules.specs.Parts.{as_term}
use Rattle.formula_core.specs.Names.{with_prime}
use Rattle.po_machine.specs.Private.{wanted_of}
use Rattle.po_machine.proofs.changes.add_open_values.Given as goal

abbrev pub invariant-loop-target : goal.invariant-loop-target
invariant-loop-target l =
    l.out.items ≡ l.initial.out.items ++ wanted_of l.wanted (map (λ y. (y.0, as_term (with_prime y))) (take l.target-index l.targets))
