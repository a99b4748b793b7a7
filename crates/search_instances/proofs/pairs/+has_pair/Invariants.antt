use Rattle.search_instances.proofs.pairs.+has_pair.Given as goal

abbrev pub decreases-has_pair : goal.decreases-has_pair
decreases-has_pair l = l.levels
