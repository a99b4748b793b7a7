use Rattle.std.proofs.Common.{◌≡◌, ◌+◌, ◌-◌, ◌^◌, ◌<◌, min, map, drop, sum}
use Rattle.event_weights.specs.Private.{formula_size}
use Rattle.event_weights.proofs.size.+formulas.Given as goal

abbrev pub invariant-size_of_formulas-loop-formula : goal.invariant-size_of_formulas-loop-formula
invariant-size_of_formulas-loop-formula l = (min (l.total + sum (map formula_size (drop l.formula-index l.formulas))) (2 ^ 64 - 1) ≡ min (sum (map formula_size l.formulas)) (2 ^ 64 - 1)) × (l.total < 2 ^ 64)
