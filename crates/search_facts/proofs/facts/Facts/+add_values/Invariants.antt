use Rattle.search_facts.proofs.facts.Facts.+add_values.Given as goal

abbrev pub decreases-add_values : goal.decreases-add_values
decreases-add_values l = l.levels
