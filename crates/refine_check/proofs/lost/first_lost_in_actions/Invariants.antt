use Rattle.std.proofs.Common.{◌≡◌, map, take, []}
use Rattle.formula_core.specs.Formulas.{joined}
use Rattle.type_action.specs.CoreActions.{core_action, unknowns_of}
use Rattle.check_rules.specs.Refinements.{lost_among}
use Rattle.model_core.specs.Faults.{first_by_place}
use Rattle.refine_check.proofs.lost.first_lost_in_actions.Given as goal

abbrev pub invariant-loop-step : goal.invariant-loop-step
invariant-loop-step l = l.first ≡ first_by_place (joined (map (λ s. lost_among l.component l.lost (unknowns_of [] (core_action s.action))) (take l.step-index l.actions)))
