use Rattle.std.proofs.Common.{◌≡◌, map, take, [], ◌∷◌}
use Rattle.formula_core.specs.Formulas.{joined}
use Rattle.check_rules.specs.Refinements.{lost_among}
use Rattle.refine_check.specs.Private.{used_at}
use Rattle.model_core.specs.Faults.{first_by_place}
use Rattle.refine_check.proofs.lost.first_lost_target.Given as goal

abbrev pub invariant-loop-target : goal.invariant-loop-target
invariant-loop-target l = l.first ≡ first_by_place (joined (map (λ r. lost_among l.component l.lost (used_at r ∷ [])) (take l.target-index l.targets)))
