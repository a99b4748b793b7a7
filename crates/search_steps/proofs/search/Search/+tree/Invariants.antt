use Rattle.search_steps.proofs.search.Search.+tree.Given as goal

abbrev pub decreases-tree : goal.decreases-tree
decreases-tree l = l.levels

abbrev pub decreases-trees : goal.decreases-trees
decreases-trees l = l.levels
