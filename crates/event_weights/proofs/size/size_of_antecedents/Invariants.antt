use Rattle.std.proofs.Common.{◌≡◌, ◌+◌, ◌-◌, ◌^◌, ◌<◌, min, map, drop, sum}
use Rattle.event_weights.specs.Private.{antecedent_size}
use Rattle.event_weights.proofs.size.size_of_antecedents.Given as goal

abbrev pub invariant-loop-antecedent : goal.invariant-loop-antecedent
invariant-loop-antecedent l = (min (l.total + sum (map antecedent_size (drop l.antecedent-index l.antecedents))) (2 ^ 64 - 1) ≡ min (sum (map antecedent_size l.antecedents)) (2 ^ 64 - 1)) × (l.total < 2 ^ 64)
