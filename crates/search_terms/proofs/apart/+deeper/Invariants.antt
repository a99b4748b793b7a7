use Rattle.search_terms.proofs.apart.+deeper.Given as goal

abbrev pub decreases-deeper : goal.decreases-deeper
decreases-deeper l = l.levels
