use Rattle.std.proofs.Common.{◌≡◌, ◌∙◌, sym, ap, subst}
use Rattle.std.proofs.lemmas.Result.{err_from_is_err_and}
use Rattle.sequent_core.specs.declared.tree.Tree.TheVariants.{Node}
use Rattle.sequent_core.specs.Trees.{Applies}
use Rattle.proof_steps.specs.Places.{grown, put}
use Rattle.proof_steps.proofs.Changes.{grown_applies}
use Rattle.proof_steps.proofs.steps.step.Goals as goal

pub returns-in_err-leaves-clause-no_fit : goal.returns-in_err-leaves-clause-no_fit
returns-in_err-leaves-clause-no_fit c e =
    let p = err_from_is_err_and c.from_residual.result c.from_residual.ensures.1 in
    let a = p.1 in
    let b = p.2 in
    c.in_err-leaves.ensures.no_fit (cc)

pub returns-in_err-leaves-clause-full : goal.returns-in_err-leaves-clause-full
returns-in_err-leaves-clause-full c e =
    let p = err_from_is_err_and c.from_residual.result c.from_residual.ensures.1 in
    let a = p.1 in
    let b = p.2 in
    c.in_err-leaves.ensures.full (cc)

pub returns-clause-applies : goal.returns-clause-applies
returns-clause-applies c =
    let fit = c.in_ok-leaves.ensures.fits in
    let is : c.put.new.tree ≡ grown c.args.rule c.args.path.now c.args.tree.now =
    c.put.ensures ∙ ap (λ p. put p (Node c.args.rule c.in_ok-leaves.leaves) c.args.tree.now) c.items.ensures
    ∙ ap (λ ts. put c.args.path.now (Node c.args.rule ts) c.args.tree.now) c.in_ok-leaves.ensures.leaves in
    subst (λ t. Applies t c.args.sequent.now) (sym is) (grown_applies c.args.rule c.args.path.now c.args.tree.now c.args.sequent.now fit.0 c.requires.applies fit.1 fit.2)
