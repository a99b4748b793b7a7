use Rattle.std.proofs.Common.{◌∙◌, sym, ap, subst, refl, inl, inr}
use Rattle.std.specs.FinMap.{get}
use Rattle.sequent_core.specs.Trees.{Applies}
use Rattle.core_steps.specs.State.{State}
use Rattle.core_steps.specs.Proving.{StepsIn, tree_in}
use Rattle.status_core.proofs.Made.{if_ok, so_made, as_made}
use Rattle.status_core.proofs.core_state.Core.step_on.Goals as goal

pub step_in-requires-clause-applies : goal.step_in-requires-clause-applies
step_in-requires-clause-applies g c = rw c.tree_of.ensures (c.does_apply.ensures.0 c.if-does_apply.true)

pub returns-then-does_apply-clause-comes : goal.returns-then-does_apply-clause-comes
returns-then-does_apply-clause-comes g c =
    let s = c.args.self.now in
    let name = c.args.name.now in
    let sequent = c.args.sequent.now in
    let get_is = c.get-stored.ensures ∙ ap (λ (z : State). get z.durable.proofs name) c.self.view_is in
    let applies = subst (λ o. Applies (tree_in o) sequent) get_is (c.does_apply.ensures.0 c.if-does_apply.true) in
    let is = c.tree_of.ensures ∙ ap tree_in get_is in
    if_ok _ _ _ (λ p m. so_made _ _ _ p (λ x y. inr (applies, subst (λ t. StepsIn s name c.args.path.now c.args.kind c.args.hint.now sequent t x) is y)) m) c.step_in.ensures.comes

pub returns-clause-comes : goal.returns-clause-comes
returns-clause-comes g c =
    let name = c.args.name.now in
    let get_is = c.get-stored.ensures ∙ ap (λ (z : State). get z.durable.proofs name) c.self.view_is in
    as_made _ _ c.tell.result _ c.tell.ensures
    (inl ((λ a. let yes = sym c.if-does_apply.false ∙ c.does_apply.ensures.1 (subst (λ o. Applies (tree_in o) c.args.sequent.now) (sym get_is) a) in cc), refl))
