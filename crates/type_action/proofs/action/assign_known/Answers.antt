use Rattle.std.proofs.Common.{◌≡◌, sym, subst, map, IfErr}
use Rattle.std.proofs.lemmas.Result.{err_from_is_err_and}
use Rattle.formula_core.specs.declared.raw.Action.TheVariants as action
use Rattle.type_formula.specs.Views.{bare_of}
use Rattle.type_action.specs.Private.{TellsFault}
use Rattle.type_action.specs.CoreActions.{Assign}
use Rattle.type_action.specs.Typings.{AreTypedAssignments, IsActionOf}
use Rattle.type_action.proofs.Told.{form_fault}
use Rattle.type_action.proofs.Typed.{assignment_form}
use Rattle.type_action.proofs.action.assign_known.Goals as goal

pub returns-in_err-add_values-clause-fault : goal.returns-in_err-add_values-clause-fault
returns-in_err-add_values-clause-fault c =
    let env = c.args.env.now in
    let targets = c.args.targets.now in
    let values = map bare_of c.args.trees.now in
    let p = err_from_is_err_and c.from_residual.result c.from_residual.ensures.1 in
    let a = p.1 in
    let b = p.2 in
    let same : c.in_err-add_values.field-0.0 ≡ p.0 = cc in
    let told = form_fault (AreTypedAssignments env targets values) (IsActionOf env (Assign targets values)) action.Assign c.in_err-add_values.field-0.0 (assignment_form env targets values) c.in_err-add_values.ensures.fault in
    subst (λ r. IfErr r (λ e. TellsFault (IsActionOf env (Assign targets values)) e)) (sym a) (subst (TellsFault (IsActionOf env (Assign targets values))) same told)
