use Rattle.search_instances.proofs.instances.+is_of_all.Given as goal

abbrev pub decreases-is_of_all : goal.decreases-is_of_all
decreases-is_of_all l = l.levels
