use Rattle.std.proofs.Common.{◌∙◌, ap, sym, []}
use Rattle.type_action.specs.CoreActions.{core_action, unknowns_of}
use Rattle.model_core.specs.Faults.{earlier, first_by_place}
use Rattle.check_rules.specs.Refinements.{lost_among}
use Rattle.refine_check.proofs.Actions.{targets_lost, formulas_lost, assign_is, apply_is, choose_in_is, choose_such_is}
use Rattle.refine_check.proofs.lost.first_lost_in_action.Goals as goal

pub returns-in_ok-second-in-Assign : goal.returns-in_ok-second-in-Assign
returns-in_ok-second-in-Assign c =
    c.earlier.ensures
    ∙ assign_is c.args.component.now c.args.lost.now c.in_ok-first-in-Assign.first c.in_ok-second-in-Assign.second c.in-Assign.targets c.in-Assign.values
    (c.in_ok-first-in-Assign.ensures ∙ ap (λ ts. first_by_place (targets_lost c.args.component.now c.args.lost.now ts)) c.items.ensures) (c.in_ok-second-in-Assign.ensures ∙ ap (λ fs. first_by_place (formulas_lost c.args.component.now c.args.lost.now fs)) c.items-in-Assign.ensures)
    ∙ ap (λ a. first_by_place (lost_among c.args.component.now c.args.lost.now (unknowns_of [] (core_action a)))) (sym c.in-Assign.is)

pub returns-in_ok-third-in-Apply : goal.returns-in_ok-third-in-Apply
returns-in_ok-third-in-Apply c =
    c.earlier-in-Apply-2.ensures
    ∙ ap (earlier c.in_ok-first-in-Apply.first) c.earlier-in-Apply.ensures
    ∙ apply_is c.args.component.now c.args.lost.now c.in-Apply.target c.in-Apply.x c.in-Apply.value c.in_ok-first-in-Apply.first c.in_ok-second-in-Apply.second c.in_ok-third-in-Apply.third
    c.in_ok-first-in-Apply.ensures c.in_ok-second-in-Apply.ensures c.in_ok-third-in-Apply.ensures
    ∙ ap (λ a. first_by_place (lost_among c.args.component.now c.args.lost.now (unknowns_of [] (core_action a)))) (sym c.in-Apply.is)

pub returns-in_ok-second-in-ChooseIn : goal.returns-in_ok-second-in-ChooseIn
returns-in_ok-second-in-ChooseIn c =
    c.earlier-in-ChooseIn.ensures
    ∙ choose_in_is c.args.component.now c.args.lost.now c.in_ok-first-in-ChooseIn.first c.in_ok-second-in-ChooseIn.second c.in-ChooseIn.target c.in-ChooseIn.set
    c.in_ok-first-in-ChooseIn.ensures c.in_ok-second-in-ChooseIn.ensures
    ∙ ap (λ a. first_by_place (lost_among c.args.component.now c.args.lost.now (unknowns_of [] (core_action a)))) (sym c.in-ChooseIn.is)

pub returns-in_ok-second-in-ChooseSuch : goal.returns-in_ok-second-in-ChooseSuch
returns-in_ok-second-in-ChooseSuch c =
    c.earlier-in-ChooseSuch.ensures
    ∙ choose_such_is c.args.component.now c.args.lost.now c.in_ok-first-in-ChooseSuch.first c.in_ok-second-in-ChooseSuch.second c.in-ChooseSuch.targets c.in-ChooseSuch.predicate
    (c.in_ok-first-in-ChooseSuch.ensures ∙ ap (λ ts. first_by_place (targets_lost c.args.component.now c.args.lost.now ts)) c.items-in-ChooseSuch.ensures) c.in_ok-second-in-ChooseSuch.ensures
    ∙ ap (λ a. first_by_place (lost_among c.args.component.now c.args.lost.now (unknowns_of [] (core_action a)))) (sym c.in-ChooseSuch.is)
