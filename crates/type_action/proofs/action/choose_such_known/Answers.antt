use Rattle.std.proofs.Common.{◌≡◌, ◌∙◌, sym, ap, subst, rules, true}
use Rattle.formula_core.specs.declared.raw.Action.{Action}
use Rattle.formula_core.specs.declared.raw.Action.TheVariants as action
use Rattle.formula_core.specs.declared.ty.Ty.TheVariants as ty
use Rattle.type_formula.specs.Views.{bare_of}
use Rattle.type_action.specs.Private.{TellsFault}
use Rattle.type_action.specs.CoreActions.{ChooseSuch, typed_targets, env_after, agree}
use Rattle.type_action.specs.Results.{IsOnly}
use Rattle.type_action.specs.Typings.{IsFormulaOf, IsActionOf}
use Rattle.type_action.proofs.Told.{form_only, form_fault, if_ok_map}
use Rattle.type_action.proofs.Typed.{choice_such_form}
use Rattle.type_action.proofs.action.choose_such_known.Goals as goal

pub returns-in-Ok-clause-typed : goal.returns-in-Ok-clause-typed
returns-in-Ok-clause-typed c =
    let env = c.args.env.now in
    let targets = c.args.targets.now in
    let b = bare_of c.args.tree.now in
    let agreed : agree env c.args.primed.now ≡ true = search rules in
    let form = choice_such_form env targets b c.requires.known (ap (agree env) (sym c.requires.primed) ∙ agreed) in
    let only : IsOnly (IsFormulaOf (env_after env targets) b ty.Truth) c.in-Ok.predicate = subst (λ e. IsOnly (IsFormulaOf e b ty.Truth) c.in-Ok.predicate) c.requires.after c.in-Ok.ensures.typed in
    if_ok_map (λ (a : Action). a ≡ action.ChooseSuch (typed_targets env targets) c.in-Ok.predicate) (IsOnly (IsActionOf env (ChooseSuch targets b))) c.choice_such.result
    (λ a e. subst (IsOnly (IsActionOf env (ChooseSuch targets b))) (sym e)
    (form_only (IsFormulaOf (env_after env targets) b ty.Truth) (IsActionOf env (ChooseSuch targets b)) (action.ChooseSuch (typed_targets env targets)) c.in-Ok.predicate form only))
    c.choice_such.ensures.made

pub returns-in-Err-clause-fault : goal.returns-in-Err-clause-fault
returns-in-Err-clause-fault c =
    let env = c.args.env.now in
    let targets = c.args.targets.now in
    let b = bare_of c.args.tree.now in
    let agreed : agree env c.args.primed.now ≡ true = search rules in
    let form = choice_such_form env targets b c.requires.known (ap (agree env) (sym c.requires.primed) ∙ agreed) in
    let told : TellsFault (IsFormulaOf (env_after env targets) b ty.Truth) c.in-Err.fault = subst (λ e. TellsFault (IsFormulaOf e b ty.Truth) c.in-Err.fault) c.requires.after c.in-Err.ensures.fault in
    form_fault (IsFormulaOf (env_after env targets) b ty.Truth) (IsActionOf env (ChooseSuch targets b)) (action.ChooseSuch (typed_targets env targets)) c.in-Err.fault form told
