use Rattle.std.proofs.Common.{subst}
use Rattle.std.specs.List.{AllByRecursion}
use Rattle.formula_print.specs.Held.{HasNarrowNumbers}
use Rattle.formula_print.proofs.Literals.{narrow_node, narrow_bind}
use Rattle.formula_print.proofs.depths.+deepest.Goals as goal

pub deepest-returns-in-Node-clause-narrow : goal.deepest-returns-in-Node-clause-narrow
deepest-returns-in-Node-clause-narrow t c = narrow_node c.args.formula.now _ _ _ c.in-Node.is (subst (AllByRecursion HasNarrowNumbers) c.items.ensures c.deepest_of_all.ensures.narrow)

pub deepest-returns-in-Bind-clause-narrow : goal.deepest-returns-in-Bind-clause-narrow
deepest-returns-in-Bind-clause-narrow t c = narrow_bind c.args.formula.now _ _ _ _ c.in-Bind.is (subst (AllByRecursion HasNarrowNumbers) c.items-in-Bind.ensures c.deepest_of_all-in-Bind.ensures.narrow)
