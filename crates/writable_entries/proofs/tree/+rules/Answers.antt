use Rattle.writable_entries.proofs.Nodes.{children_decide}
use Rattle.writable_entries.proofs.tree.+rules.Goals as goal

pub has_fit_rules-returns-then-is_fit_node : goal.has_fit_rules-returns-then-is_fit_node
has_fit_rules-returns-then-is_fit_node t c =
    children_decide c.args.tree.now c.in-Node.rule c.in-Node.children c.items-parts.result.now c.is_fit_node.result c.have_fit_rules.result
    c.in-Node.is c.items-parts.ensures c.is_fit_node.ensures c.if-is_fit_node.true c.have_fit_rules.ensures
