use Rattle.std.proofs.Common.{◌≡◌, ◌∙◌, sym, ap, subst}
use Rattle.std.specs.Prelude.{Some, None, IfOk}
use Rattle.std.specs.FinMap.{get}
use Rattle.std.specs.Option.{option_copied}
use Rattle.sequent_core.specs.Trees.{Applies}
use Rattle.proof_steps.specs.Places.{leaf_at}
use Rattle.core_steps.specs.State.{State}
use Rattle.core_steps.specs.Proving.{stored_tree, tree_in}
use Rattle.status_core.specs.PrivateParts.{IsShownAt}
use Rattle.status_core.proofs.Showing.{shown_leaf, shown_none}
use Rattle.status_core.proofs.core_state.Core.shown_sequent.Goals as goal

pub returns-then-does_apply : goal.returns-then-does_apply
returns-then-does_apply c =
    let name = c.args.name.now in
    let sequent = c.args.sequent.now in
    let path = c.in-Some.path.now in
    let get_is = c.get-stored.ensures ∙ ap (λ (s : State). get s.durable.proofs name) c.self.view_is in
    let applies = subst (λ o. Applies (tree_in o) sequent) get_is (c.does_apply.ensures.0 c.if-does_apply.true) in
    let is : c.tree_of.result.now ≡ stored_tree c.args.self.now.durable.proofs name = c.tree_of.ensures ∙ ap tree_in get_is in
    let there = subst (λ t. IfOk c.leaf_there.result (λ leaf. leaf ≡ leaf_at path t sequent)) is c.leaf_there.ensures.there in
    subst (λ given. IfOk c.leaf_there.result (λ shown. IsShownAt (stored_tree c.args.self.now.durable.proofs name) sequent (option_copied given) shown)) (sym c.in-Some.is)
    (shown_leaf (stored_tree c.args.self.now.durable.proofs name) sequent path c.leaf_there.result applies there)

pub leaf_there-requires : goal.leaf_there-requires
leaf_there-requires c = record { applies = rw c.tree_of.ensures (c.does_apply.ensures.0 c.if-does_apply.true) }

pub returns-else-does_apply : goal.returns-else-does_apply
returns-else-does_apply c =
    let name = c.args.name.now in
    let sequent = c.args.sequent.now in
    let get_is = c.get-stored.ensures ∙ ap (λ (s : State). get s.durable.proofs name) c.self.view_is in
    subst (λ given. IsShownAt (stored_tree c.args.self.now.durable.proofs name) sequent (option_copied given) None) (sym c.in-Some.is)
    (shown_none (stored_tree c.args.self.now.durable.proofs name) sequent c.in-Some.path.now
    (λ a. let yes = sym c.if-does_apply.false ∙ c.does_apply.ensures.1 (subst (λ o. Applies (tree_in o) sequent) (sym get_is) a) in cc))
