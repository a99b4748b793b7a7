use Rattle.std.proofs.Common.{◌≡◌, ◌∙◌, sym, ap, subst, ◌+◌, ◌≤◌, List, map, slice_get, Some, arith}
use Rattle.std.proofs.lemmas.Option.{slice_get-get_or}
use Rattle.std.proofs.lemmas.Result.{err_from_is_err_and}
use Rattle.formula_core.specs.Sizes.{greatest}
use Rattle.sequent_core.specs.declared.tree.Tree.{Tree}
use Rattle.sequent_core.specs.declared.tree.Tree.TheVariants.{Node}
use Rattle.proof_codec.specs.Private.{HasFitRules, tree_height}
use Rattle.proof_codec.proofs.Growing.{node_written, fit_children, lower_children, among_trees}
use Rattle.proof_codec.proofs.Writing.{kept_before, fitting_at}
use Rattle.proof_codec.proofs.tree.+write.Goals as goal

pub write_children-returns-in_err-write_tree : goal.write_children-returns-in_err-write_tree
write_children-returns-in_err-write_tree t c =
    let p = err_from_is_err_and c.from_residual-in_err-write_tree.result c.from_residual-in_err-write_tree.ensures.1 in
    rw (p.1) (kept_before _ _ _ _ _ _ c.in_ok-write_number.ensures (kept_before _ _ _ _ _ _ c.loop-child.invariant c.in_err-write_tree.ensures))

pub write_tree-returns-in_err-write_children-in-Node : goal.write_tree-returns-in_err-write_children-in-Node
write_tree-returns-in_err-write_children-in-Node t c =
    let p = err_from_is_err_and c.from_residual-in_err-write_children-in-Node.result c.from_residual-in_err-write_children-in-Node.ensures.1 in
    rw (p.1) (kept_before _ _ _ _ _ _ c.in_ok-write_byte-in-Node.ensures (kept_before _ _ _ _ _ _ c.in_ok-write-in-Node.ensures c.in_err-write_children-in-Node.ensures))

pub write_tree-returns-in_ok-write_children-in-Node : goal.write_tree-returns-in_ok-write_children-in-Node
write_tree-returns-in_ok-write_children-in-Node t c =
    let is = c.in-Node.is ∙ ap (λ (xs : List Tree). Node c.in-Node.rule xs) (sym c.items.ensures) in
    rw (is) (node_written _ _ _ _ _ _ (subst HasFitRules is c.requires) c.in_ok-write_byte-in-Node.ensures c.in_ok-write-in-Node.ensures c.in_ok-write_children-in-Node.ensures)

pub write_tree-write_children-requires : goal.write_tree-write_children-requires
write_tree-write_children-requires t c =
    let low : greatest (map tree_height c.items.result.now) + 1 ≡ tree_height c.args.tree.now = lower_children _ _ _ _ c.in-Node.is c.items.ensures in
    (omega (arith, c.decreases, low), fit_children _ _ _ _ c.requires c.in-Node.is c.items.ensures)

pub write_children-write_tree-requires : goal.write_children-write_tree-requires
write_children-write_tree-requires t c =
    let at : slice_get c.args.children.now c.loop-child.child-index ≡ Some c.child-item.result =
    slice_get-get_or c.args.children.now c.loop-child.child-index c.child-item.result c.loop-child-test.true ∙ ap (λ (x : Tree). Some x) (sym c.child-item.is) in
    let low : tree_height c.child-item.result ≤ greatest (map tree_height c.args.children.now) = among_trees _ _ _ at in
    (omega (arith, c.decreases, low), fitting_at HasFitRules _ _ _ c.requires.fit at)
