use Rattle.search_passes.proofs.over.+find_overriding.Given as goal

abbrev pub decreases-find_overriding : goal.decreases-find_overriding
decreases-find_overriding l = l.levels
