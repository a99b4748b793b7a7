use Rattle.std.proofs.Common.{◌∙◌, ◌++◌, [], map}
use Rattle.formula_core.specs.Formulas.{joined}
use Rattle.type_action.specs.CoreActions.{core_action, unknowns_of}
use Rattle.model_core.specs.Faults.{first_by_place}
use Rattle.check_rules.specs.Refinements.{lost_among, unknowns_in}
use Rattle.refine_check.proofs.Faults.{both}
use Rattle.refine_check.proofs.lost.first_lost_in_own.Goals as goal

pub returns : goal.returns
returns c =
    c.earlier.ensures
    ∙ both (joined (map (λ g. lost_among c.args.component.now c.args.lost.now (unknowns_in g.formula)) c.items.result.now))
    (joined (map (λ s. lost_among c.args.component.now c.args.lost.now (unknowns_of [] (core_action s.action))) c.items-2.result.now))
    c.in_ok-first.first c.in_ok-second.second c.in_ok-first.ensures c.in_ok-second.ensures
    ∙ (λ i. first_by_place (joined (map (λ g. lost_among c.args.component.now c.args.lost.now (unknowns_in g.formula)) (c.items.ensures i))
    ++ joined (map (λ s. lost_among c.args.component.now c.args.lost.now (unknowns_of [] (core_action s.action))) (c.items-2.ensures i))))
