use Rattle.std.proofs.Common.{◌≡◌, ◌∙◌, sym, ap, subst, length, arith}
use Rattle.std.specs.Option.{option_map}
use Rattle.proof_tree.specs.Ways.{antecedents_of}
use Rattle.proof_tree.proofs.WayEnds.{antecedents_of-Below}
use Rattle.proof_steps.specs.Private.{TellsFit}
use Rattle.proof_steps.proofs.Rules.{first_of}
use Rattle.proof_steps.proofs.Walks.{below_leaf, below_fresh, below_applies}
use Rattle.proof_steps.proofs.steps.+fits_at.Goals as goal

pub fits_at-requires : goal.fits_at-requires
fits_at-requires t c =
    let found = sym c.child_at.ensures ∙ ap (option_map (λ x. (x.0.now, x.1.now))) c.in-Some.is in
    let is = antecedents_of-Below c.in-Some.antecedent c.args.way in
    let fresh = below_fresh c.args.tree.now c.args.path.now c.args.sequent.now (antecedents_of c.args.way.now) _ c.in-Some.antecedent.now c.in-Some.child.now
    c.in-len1-up.len_at_least found is c.requires.fresh c.requires.applies in
    let applies = below_applies c.args.tree.now c.args.path.now c.args.sequent.now (antecedents_of c.args.way.now) _ c.in-Some.antecedent.now c.in-Some.child.now
    c.in-len1-up.len_at_least found is c.requires.applies in
    (omega (arith, c.decreases, ap length (first_of c.args.path.now c.in-len1-up.len_at_least)), (fresh, applies))

pub returns-in-Some : goal.returns-in-Some
returns-in-Some t c =
    let found = sym c.child_at.ensures ∙ ap (option_map (λ x. (x.0.now, x.1.now))) c.in-Some.is in
    let same = below_leaf c.args.tree.now c.args.path.now c.args.sequent.now (antecedents_of c.args.way.now) _ c.in-Some.antecedent.now c.in-Some.child.now
    c.in-len1-up.len_at_least found (antecedents_of-Below _ _) in
    subst (λ o. TellsFit o c.args.rule.now c.fits_at.result) (sym same) c.fits_at.ensures
