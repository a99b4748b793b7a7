use Rattle.std.proofs.Common.{◌≡◌, None, take}
use Rattle.std.specs.Map.{lookup}
use Rattle.formula_core.specs.Same.{same_formula}
use Rattle.readings_core.proofs.atoms.number_of_atom.Given as goal

abbrev pub invariant-loop-pair : goal.invariant-loop-pair
invariant-loop-pair l = lookup (same_formula l.f) (take l.pair-index l.reading.numbers) ≡ None
