use Rattle.std.proofs.Common.{sym, subst}
use Rattle.type_formula.specs.Views.{bare_of}
use Rattle.type_action.specs.Results.{IsOnly}
use Rattle.type_action.specs.Typings.{IsFormulaOf, IsTypedAssignment}
use Rattle.type_action.proofs.Told.{form_only, form_fault}
use Rattle.type_action.proofs.Typed.{new_value_form}
use Rattle.type_action.proofs.values.type_value.Goals as goal

pub returns-in_ok-copy-in-Ok-clause-typed : goal.returns-in_ok-copy-in-Ok-clause-typed
returns-in_ok-copy-in-Ok-clause-typed c =
    let env = c.args.env.now in
    let target = c.args.target.now in
    let b = bare_of c.args.tree.now in
    let t = c.in-Some.ty.now in
    let form = new_value_form env target b t (sym c.in-Some.ensures.ty) in
    subst (λ x. IsOnly (IsTypedAssignment env target b) (x, c.in-Ok.formula)) (sym c.in_ok-copy-in-Ok.ensures)
    (form_only (IsFormulaOf env b t) (IsTypedAssignment env target b) (λ f. (target.name, f)) c.in-Ok.formula form c.in-Ok.ensures.typed)

pub returns-in-Err-clause-fault : goal.returns-in-Err-clause-fault
returns-in-Err-clause-fault c =
    let env = c.args.env.now in
    let target = c.args.target.now in
    let b = bare_of c.args.tree.now in
    let t = c.in-Some.ty.now in
    form_fault (IsFormulaOf env b t) (IsTypedAssignment env target b) (λ f. (target.name, f)) c.in-Err.fault (new_value_form env target b t (sym c.in-Some.ensures.ty)) c.in-Err.ensures.fault
