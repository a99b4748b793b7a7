-- The path to the first rule of a tree that isn't plain, at each variant.
use Rattle.std.proofs.Common.{◌≡◌, ◌∙◌, sym, ap, ℕ, List, [], map, Option, Some, None, if◌then◌else◌}
use Rattle.rule_table.specs.declared.rule.Rule.{Rule}
use Rattle.sequent_core.specs.declared.tree.Tree.{Tree}
use Rattle.sequent_core.specs.declared.tree.Tree.TheOpen.{Leaf as LeafF, Node as NodeF}
use Rattle.sequent_core.specs.declared.tree.Tree.TheVariants.{Leaf, Node}
use Rattle.sequent_core.specs.declared.tree.Tree.TheViews.{rolls-Leaf, rolls-Node}
use Rattle.sequent_core.specs.declared.tree.Tree.TheFolds.{fold-roll-Tree}
use Rattle.plain_logic.specs.Plain.{is_plain_rule}
use Rattle.plain_rules.specs.Derivations.{first_below, not_plain_step, not_plain}

pub not_plain-Leaf : not_plain Leaf ≡ None
not_plain-Leaf = ap not_plain (sym rolls-Leaf) ∙ fold-roll-Tree (Option (List ℕ)) not_plain_step LeafF

pub not_plain-Node : (r : Rule) (trees : List Tree) → not_plain (Node r trees) ≡ (if is_plain_rule r then first_below 0 (map not_plain trees) else Some [])
not_plain-Node r trees = ap not_plain (sym (rolls-Node r trees)) ∙ fold-roll-Tree (Option (List ℕ)) not_plain_step (NodeF r trees)

pub ruleset equations = (not_plain-Leaf, not_plain-Node)
