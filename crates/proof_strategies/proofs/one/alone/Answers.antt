use Rattle.std.proofs.Common.{◌∙◌, ap, length, map, arith}
use Rattle.sequent_core.specs.declared.tree.Tree.TheVariants.{Leaf, Node}
use Rattle.proof_strategies.proofs.Alone.{nodes_alone}
use Rattle.proof_strategies.proofs.one.alone.Goals as goal

pub returns-then-items-gt-MOST_LEAVES : goal.returns-then-items-gt-MOST_LEAVES
returns-then-items-gt-MOST_LEAVES c = omega (arith, c.if-items-gt-MOST_LEAVES.true, nodes_alone c.args.rule, ap length c.items.ensures)

pub returns-in-Ok : goal.returns-in-Ok
returns-in-Ok c = (
  ap (λ leaves. Node c.args.rule leaves) (c.in-Ok.ensures ∙ ap (map (λ a. Leaf)) c.items-2.ensures),
  omega (arith, c.if-items-gt-MOST_LEAVES.false, nodes_alone c.args.rule, ap length c.items.ensures),
)
