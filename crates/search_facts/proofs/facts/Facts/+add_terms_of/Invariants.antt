use Rattle.search_facts.proofs.facts.Facts.+add_terms_of.Given as goal

abbrev pub decreases-add_terms_of : goal.decreases-add_terms_of
decreases-add_terms_of l = l.levels
