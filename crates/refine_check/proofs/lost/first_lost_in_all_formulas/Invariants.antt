use Rattle.std.proofs.Common.{◌≡◌, map, take}
use Rattle.formula_core.specs.Formulas.{joined}
use Rattle.check_rules.specs.Refinements.{lost_among, unknowns_in}
use Rattle.model_core.specs.Faults.{first_by_place}
use Rattle.refine_check.proofs.lost.first_lost_in_all_formulas.Given as goal

abbrev pub invariant-loop-formula : goal.invariant-loop-formula
invariant-loop-formula l = l.first ≡ first_by_place (joined (map (λ f. lost_among l.component l.lost (unknowns_in f)) (take l.formula-index l.formulas)))
