use Rattle.std.proofs.Common.{◌-◌, ap, subst, length, arith}
use Rattle.std.proofs.lemmas.Result.{err_from_is_err_and}
use Rattle.proof_codec.specs.Private.{IsReadAs, IsTreeWithin}
use Rattle.proof_codec.specs.Numbers.{IsByte, byte}
use Rattle.proof_codec.specs.ProofTrees.{tree_bytes}
use Rattle.proof_codec.proofs.Branches.{node_read, no_node, node_of, no_children_of, no_rule_there, no_children_there}
use Rattle.proof_codec.proofs.Items.{one_more, no_items_there, no_list}
use Rattle.proof_codec.proofs.tree.+tree.Goals as goal

pub tree_within-returns-in_err-rule-in-1 : goal.tree_within-returns-in_err-rule-in-1
tree_within-returns-in_err-rule-in-1 t c =
    let first = subst (λ n. IsReadAs IsByte byte c.args.from.now n c.byte.new.self) c.in-1.is c.in_ok-byte.ensures in
    let p = err_from_is_err_and c.from_residual-in_err-rule-in-1.result c.from_residual-in_err-rule-in-1.ensures.1 in
    rw (p.1, p.2) (no_node c.args.depth (omega arith) _ _ c.args.from.now c.in_err-rule-in-1.field-0.0 first (no_rule_there (c.args.depth - 1) c.in_err-rule-in-1.field-0.0 _ c.in_err-rule-in-1.ensures))

pub tree_within-returns-in_err-children-in-1 : goal.tree_within-returns-in_err-children-in-1
tree_within-returns-in_err-children-in-1 t c =
    let first = subst (λ n. IsReadAs IsByte byte c.args.from.now n c.byte.new.self) c.in-1.is c.in_ok-byte.ensures in
    let p = err_from_is_err_and c.from_residual-in_err-children-in-1.result c.from_residual-in_err-children-in-1.ensures.1 in
    rw (p.1, p.2) (no_node c.args.depth (omega arith) _ _ c.args.from.now c.in_err-children-in-1.field-0.0 first
    (no_children_of (c.args.depth - 1) _ _ c.args.from.now _ c.in_ok-rule-in-1.ensures _ c.in_err-children-in-1.field-0.0 (ap length c.items.ensures) c.in_err-children-in-1.ensures))

pub tree_within-returns-in_ok-children-in-1 : goal.tree_within-returns-in_ok-children-in-1
tree_within-returns-in_ok-children-in-1 t c =
    let first = subst (λ n. IsReadAs IsByte byte c.args.from.now n c.byte.new.self) c.in-1.is c.in_ok-byte.ensures in
    node_read c.args.depth (omega arith) _ _ _ _ _ first (node_of (c.args.depth - 1) _ _ _ _ c.in_ok-rule-in-1.ensures _ _ (ap length c.items.ensures) c.in_ok-children-in-1.ensures)

pub children_of-returns-in_err-tree_within : goal.children_of-returns-in_err-tree_within
children_of-returns-in_err-tree_within t c =
    let p = err_from_is_err_and c.from_residual-in_err-tree_within.result c.from_residual-in_err-tree_within.ensures.1 in
    rw (p.1, p.2) (no_children_there c.args.depth c.args.wanted c.in_err-tree_within.field-0.0 _
    (no_list (IsTreeWithin c.args.depth) tree_bytes c.in_err-tree_within.field-0.0 _ _ _ c.in_ok-count.ensures
    (no_items_there (IsTreeWithin c.args.depth) tree_bytes c.in_err-tree_within.field-0.0 _ _ _ _ _ c.loop-test.true c.loop.invariant c.in_err-tree_within.ensures)))

pub children_of-loop-preserved : goal.children_of-loop-preserved
children_of-loop-preserved t c =
    rw (c.in_ok-push.ensures.items) (one_more (IsTreeWithin c.args.depth) tree_bytes _ _ _ _ _ _ c.loop.invariant c.in_ok-tree_within.ensures)
