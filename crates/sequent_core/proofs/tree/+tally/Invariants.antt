use Rattle.std.proofs.Common.{◌≡◌, ◌-◌, ◌^◌, ◌&&◌, ◌||◌, min, sum, map, take, drop}
use Rattle.std.specs.List.{list_all, list_any}
use Rattle.sequent_core.specs.Trees.{is_closed, is_reviewed, node_count, rule_count}
use Rattle.sequent_core.proofs.tree.+tally.Given as goal

abbrev pub invariant-tally_of_all-loop-tree : goal.invariant-tally_of_all-loop-tree
invariant-tally_of_all-loop-tree l = record {
  nodes : l.all.nodes ≡ min (sum (map node_count (take l.tree-index l.trees))) (2 ^ 64 - 1);
  rules : l.all.rules ≡ min (sum (map rule_count (take l.tree-index l.trees))) (2 ^ 64 - 1);
  closed : (l.all.closed && list_all (λ closed. closed) (map is_closed (drop l.tree-index l.trees))) ≡ list_all (λ closed. closed) (map is_closed l.trees);
  reviewed : (l.all.reviewed || list_any (λ reviewed. reviewed) (map is_reviewed (drop l.tree-index l.trees))) ≡ list_any (λ reviewed. reviewed) (map is_reviewed l.trees);
}
