use Rattle.std.proofs.Common.{◌∙◌, ◌<◌, ◌≤◌, ap, sym, subst, Err}
use Rattle.rule_making.specs.Make.{FitsAt}
use Rattle.sequent_core.specs.Trees.{Applies, node_count}
use Rattle.proof_steps.specs.Places.{HasLeaf, grown}
use Rattle.core_steps.specs.Proving.{Keeps}
use Rattle.status_core.proofs.Made.{if_ok, so_made, as_made}
use Rattle.status_core.proofs.Putting.{never_leafless, never_unfit, puts_grown, puts_full}
use Rattle.status_core.proofs.core_state.Core.put.Goals as goal

pub step-requires : goal.step-requires
step-requires g c = record { applies = subst (λ t. Applies t c.args.sequent.now) (sym c.in-Ok.ensures) c.requires.applies }

pub returns-in-Ok-step-clause-comes : goal.returns-in-Ok-step-clause-comes
returns-in-Ok-step-clause-comes g c =
    let s = c.args.self.now in
    let path = c.args.path.now in
    let rule = c.args.rule in
    let is = c.in-Ok-step.ensures.grown ∙ ap (λ t. grown rule path t) c.in-Ok.ensures in
    let small = subst (λ t. node_count t ≤ 2048) is c.in-Ok-step.ensures.small in
    if_ok _ _ _ (λ p m. so_made _ _ _ p
    (λ x keeps. puts_grown s c.args.name.now c.args.sequent.now c.args.tree.now path rule x small
    (subst (λ t. Keeps s c.args.name.now c.args.sequent.now t x) is keeps)) m) c.keep_tree.ensures.comes

pub returns-in-Err-TreeFull-clause-comes : goal.returns-in-Err-TreeFull-clause-comes
returns-in-Err-TreeFull-clause-comes g c =
    let rule = c.args.rule in
    let large = c.in-Err-TreeFull.ensures.too_many (ap Err c.in-Err-TreeFull.field-0-is) in
    as_made _ _ c.tell.result _ c.tell.ensures
    (puts_full c.args.self.now c.args.name.now c.args.sequent.now c.args.tree.now c.args.path.now rule
    (subst (λ t. 2048 < node_count (grown rule c.args.path.now t)) c.in-Ok.ensures large))

pub unreachable-requires : goal.unreachable-requires
unreachable-requires g c =
    let fits = subst (λ t. HasLeaf c.args.path.now t c.args.sequent.now (FitsAt c.args.rule)) (sym c.in-Ok.ensures) c.requires.fits in
    never_leafless _ _ _ _ fits (c.in-Err-NoLeaf.ensures.no_leaf (ap Err c.in-Err-NoLeaf.field-0-is))

pub unreachable-requires-in-Err-NoFit : goal.unreachable-requires-in-Err-NoFit
unreachable-requires-in-Err-NoFit g c =
    let fits = subst (λ t. HasLeaf c.args.path.now t c.args.sequent.now (FitsAt c.args.rule)) (sym c.in-Ok.ensures) c.requires.fits in
    never_unfit _ _ _ _ fits (c.in-Err-NoFit.ensures.no_fit (ap Err c.in-Err-NoFit.field-0-is))
