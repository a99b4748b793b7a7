use Rattle.std.proofs.Common.{sym, subst}
use Rattle.formula_core.specs.declared.raw.Action.TheVariants as action
use Rattle.type_formula.specs.Views.{bare_of}
use Rattle.type_action.specs.CoreActions.{ChooseIn}
use Rattle.type_action.specs.Results.{IsOnly}
use Rattle.type_action.specs.Typings.{IsFormulaOf, IsActionOf}
use Rattle.type_action.proofs.Told.{form_only, form_fault}
use Rattle.type_action.proofs.Typed.{choice_in_form}
use Rattle.type_action.proofs.action.choose_among.Goals as goal

pub returns-in_ok-copy-in-Ok-clause-typed : goal.returns-in_ok-copy-in-Ok-clause-typed
returns-in_ok-copy-in-Ok-clause-typed c =
    let env = c.args.env.now in
    let target = c.args.target.now in
    let b = bare_of c.args.tree.now in
    let t = c.args.sets.now in
    let form = choice_in_form env target b t c.requires in
    subst (λ x. IsOnly (IsActionOf env (ChooseIn target b)) (action.ChooseIn x c.in-Ok.set)) (sym c.in_ok-copy-in-Ok.ensures)
    (form_only (IsFormulaOf env b t) (IsActionOf env (ChooseIn target b)) (action.ChooseIn target.name) c.in-Ok.set form c.in-Ok.ensures.typed)

pub returns-in-Err-clause-fault : goal.returns-in-Err-clause-fault
returns-in-Err-clause-fault c =
    let env = c.args.env.now in
    let target = c.args.target.now in
    let b = bare_of c.args.tree.now in
    let t = c.args.sets.now in
    form_fault (IsFormulaOf env b t) (IsActionOf env (ChooseIn target b)) (action.ChooseIn target.name) c.in-Err.fault (choice_in_form env target b t c.requires) c.in-Err.ensures.fault
