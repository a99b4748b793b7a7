use Rattle.std.proofs.Common.{◌≡◌, ◌-◌, ◌^◌, min, sum, map, take}
use Rattle.case_proofs.specs.Cases.{connectives}
use Rattle.case_proofs.proofs.sizes.connectives_of.Given as goal

abbrev pub invariant-loop-formula : goal.invariant-loop-formula
invariant-loop-formula l = l.total ≡ min (sum (map connectives (take l.formula-index l.formulas))) (2 ^ 32 - 1)
