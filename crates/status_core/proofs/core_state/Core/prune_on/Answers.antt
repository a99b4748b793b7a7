use Rattle.std.proofs.Common.{◌≡◌, ◌∙◌, sym, ap, subst, refl}
use Rattle.std.specs.FinMap.{get}
use Rattle.std.specs.Prelude.{Option, Some, None, MatchOption}
use Rattle.rule_table.specs.declared.Rule.{Rule}
use Rattle.sequent_core.specs.declared.Tree.TheVariants.{Leaf}
use Rattle.proof_steps.specs.Places.{rule_at, put}
use Rattle.core_steps.specs.declared.events.Reply.TheVariants.{NoNode}
use Rattle.core_steps.specs.State.{State}
use Rattle.core_steps.specs.Outcomes.{told}
use Rattle.core_steps.specs.Proving.{Keeps, stored_tree, tree_in}
use Rattle.status_core.proofs.Made.{if_ok, so_made, as_made}
use Rattle.status_core.proofs.core_state.Core.prune_on.Goals as goal

where_some : {X : Type 0} (o : Option X) (A K : Type 0) → (o ≡ None → ⊥) → K → MatchOption o A (λ x. K)
where_some None A K some k = absurd (some refl)
where_some (Some x) A K some k = k

pub returns-in-Ok-clause-comes : goal.returns-in-Ok-clause-comes
returns-in-Ok-clause-comes g c =
    let s = c.args.self.now in
    let name = c.args.name.now in
    let sequent = c.args.sequent.now in
    let path = c.args.path.now in
    let is : c.in_ok-tree.tree ≡ stored_tree s.durable.proofs name = c.in_ok-tree.ensures in
    let some = subst (λ t. rule_at path t ≡ None → ⊥) is (λ none. let no = c.in-Ok.ensures.no_node.1 none in cc) in
    let put_is = c.in-Ok.ensures.put ∙ ap (λ t. put path Leaf t) is in
    if_ok _ _ _ (λ p m. so_made _ _ _ p (λ x y. where_some (rule_at path (stored_tree s.durable.proofs name)) (x ≡ told s NoNode)
    (Keeps s name sequent (put path Leaf (stored_tree s.durable.proofs name)) x) some (subst (λ t. Keeps s name sequent t x) put_is y)) m) c.keep_tree.ensures.comes

pub returns-in-Err-clause-comes : goal.returns-in-Err-clause-comes
returns-in-Err-clause-comes g c =
    let s = c.args.self.now in
    let name = c.args.name.now in
    let path = c.args.path.now in
    let is : c.in_ok-tree.tree ≡ stored_tree s.durable.proofs name = c.in_ok-tree.ensures in
    let none = subst (λ t. rule_at path t ≡ None) is (c.in-Err.ensures.no_node.0 refl) in
    as_made _ _ c.tell.result _ c.tell.ensures
    (subst (λ (o : Option Rule). MatchOption o (told s NoNode ≡ told s NoNode) (λ r. Keeps s name c.args.sequent.now (put path Leaf (stored_tree s.durable.proofs name)) (told s NoNode))) (sym none) refl)
