use Rattle.search_instances.proofs.pairs.+add_names.Given as goal

abbrev pub decreases-add_names : goal.decreases-add_names
decreases-add_names l = l.levels
