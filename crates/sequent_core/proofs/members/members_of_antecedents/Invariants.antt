use Rattle.std.proofs.Common.{◌≡◌, ◌+◌, ◌-◌, ◌^◌, ◌<◌, min, map, drop}
use Rattle.sequent_core.specs.Members.{counted, antecedent_members}
use Rattle.sequent_core.proofs.members.members_of_antecedents.Given as goal

abbrev pub invariant-loop-antecedent : goal.invariant-loop-antecedent
invariant-loop-antecedent l = (min (l.total + counted (map antecedent_members (drop l.antecedent-index l.antecedents))) (2 ^ 64 - 1) ≡ min (counted (map antecedent_members l.antecedents)) (2 ^ 64 - 1)) × (l.total < 2 ^ 64)
