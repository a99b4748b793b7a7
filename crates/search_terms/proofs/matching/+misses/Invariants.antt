use Rattle.search_terms.proofs.matching.+misses.Given as goal

abbrev pub decreases-misses : goal.decreases-misses
decreases-misses l = l.levels
