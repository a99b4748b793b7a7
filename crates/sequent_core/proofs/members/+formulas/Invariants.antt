use Rattle.std.proofs.Common.{◌≡◌, ◌+◌, ◌-◌, ◌^◌, ◌<◌, min, map, drop}
use Rattle.sequent_core.specs.Members.{counted, formula_members}
use Rattle.sequent_core.proofs.members.+formulas.Given as goal

abbrev pub invariant-members_of_formulas-loop-formula : goal.invariant-members_of_formulas-loop-formula
invariant-members_of_formulas-loop-formula l = (min (l.total + counted (map formula_members (drop l.formula-index l.formulas))) (2 ^ 64 - 1) ≡ min (counted (map formula_members l.formulas)) (2 ^ 64 - 1)) × (l.total < 2 ^ 64)
