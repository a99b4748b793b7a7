use Rattle.search_facts.proofs.facts.Facts.+add_conjuncts.Given as goal

abbrev pub decreases-add_conjuncts : goal.decreases-add_conjuncts
decreases-add_conjuncts l = l.levels
