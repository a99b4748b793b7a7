use Rattle.std.proofs.Common.{◌≡◌, ◌∙◌, sym, ap, subst, map}
use Rattle.type_formula.specs.CoreForms.{core_form}
use Rattle.type_action.specs.Private.{TellsAction}
use Rattle.type_action.specs.CoreActions.{Assign, ChooseSuch, core_action}
use Rattle.type_action.proofs.action.type_written.Goals as goal

pub returns-in-Assign : goal.returns-in-Assign
returns-in-Assign c =
    let core : Assign c.items.result.now (map core_form c.items-in-Assign.result.now) ≡ core_action c.args.raw.now =
    (λ i. Assign (c.items.ensures i) (map core_form (c.items-in-Assign.ensures i))) ∙ sym (ap core_action c.in-Assign.is) in
    subst (λ a. TellsAction c.args.env.now a c.type_values.result) core c.type_values.ensures

pub returns-in-Apply : goal.returns-in-Apply
returns-in-Apply c = subst (λ a. TellsAction c.args.env.now a c.type_value_at.result) (sym (ap core_action c.in-Apply.is)) c.type_value_at.ensures

pub returns-in-ChooseIn : goal.returns-in-ChooseIn
returns-in-ChooseIn c = subst (λ a. TellsAction c.args.env.now a c.type_choice_in.result) (sym (ap core_action c.in-ChooseIn.is)) c.type_choice_in.ensures

pub returns-in-ChooseSuch : goal.returns-in-ChooseSuch
returns-in-ChooseSuch c =
    let core : ChooseSuch c.items-in-ChooseSuch.result.now (core_form c.in-ChooseSuch.predicate) ≡ core_action c.args.raw.now =
    ap (λ ts. ChooseSuch ts (core_form c.in-ChooseSuch.predicate)) c.items-in-ChooseSuch.ensures ∙ sym (ap core_action c.in-ChooseSuch.is) in
    subst (λ a. TellsAction c.args.env.now a c.type_choice_such.result) core c.type_choice_such.ensures
