use Rattle.std.proofs.Common.{◌≡◌, sym, ap, length, arith}
use Rattle.std.proofs.lemmas.Result.{err_from_is_err_and}
use Rattle.proof_steps.specs.declared.steps.StepFault.TheVariants.{NoFit}
use Rattle.proof_steps.proofs.Counts.{count_grown}
use Rattle.proof_steps.proofs.Tells.{told_at, told_fit, told_no_fit}
use Rattle.proof_steps.proofs.steps.leaves_at.Goals as goal

pub returns-in_err-fits_at-clause-no_fit : goal.returns-in_err-fits_at-clause-no_fit
returns-in_err-fits_at-clause-no_fit c e =
    let p = err_from_is_err_and c.from_residual.result c.from_residual.ensures.1 in
    let a = p.1 in
    let b = p.2 in
    let same : c.in_err-fits_at.field-0.0 ≡ NoFit = cc in
    told_no_fit c.args.rule.now _ c.in_err-fits_at.field-0.0 same
    (told_at c.args.tree.now c.items.result.now c.args.path.now c.args.sequent.now c.args.rule.now _ c.items.ensures c.in_err-fits_at.ensures)

pub returns-then-saturating_add-gt-MOST_NODES-clause-full : goal.returns-then-saturating_add-gt-MOST_NODES-clause-full
returns-then-saturating_add-gt-MOST_NODES-clause-full c e =
    told_fit c.args.rule.now _ _ (told_at c.args.tree.now c.items.result.now c.args.path.now c.args.sequent.now c.args.rule.now _ c.items.ensures c.in_ok-fits_at.ensures)

pub returns-then-saturating_add-gt-MOST_NODES-clause-too_many : goal.returns-then-saturating_add-gt-MOST_NODES-clause-too_many
returns-then-saturating_add-gt-MOST_NODES-clause-too_many c e =
    let fit = told_fit c.args.rule.now _ _ (told_at c.args.tree.now c.items.result.now c.args.path.now c.args.sequent.now c.args.rule.now _ c.items.ensures c.in_ok-fits_at.ensures) in
    let count = count_grown c.args.rule.now c.args.path.now c.args.tree.now c.args.sequent.now fit.0 fit.1 in
    omega (arith, count, c.if-saturating_add-gt-MOST_NODES.true, c.saturating_add.ensures, c.node_count.ensures, ap length c.items-2.ensures)

pub returns-clause-fits : goal.returns-clause-fits
returns-clause-fits c =
    told_fit c.args.rule.now _ _ (told_at c.args.tree.now c.items.result.now c.args.path.now c.args.sequent.now c.args.rule.now _ c.items.ensures c.in_ok-fits_at.ensures)

pub returns-clause-small : goal.returns-clause-small
returns-clause-small c =
    let fit = told_fit c.args.rule.now _ _ (told_at c.args.tree.now c.items.result.now c.args.path.now c.args.sequent.now c.args.rule.now _ c.items.ensures c.in_ok-fits_at.ensures) in
    let count = count_grown c.args.rule.now c.args.path.now c.args.tree.now c.args.sequent.now fit.0 fit.1 in
    omega (arith, count, c.if-saturating_add-gt-MOST_NODES.false, c.saturating_add.ensures, c.node_count.ensures, ap length c.items-2.ensures)
