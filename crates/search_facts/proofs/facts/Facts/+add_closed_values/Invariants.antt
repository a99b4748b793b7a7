use Rattle.search_facts.proofs.facts.Facts.+add_closed_values.Given as goal

abbrev pub decreases-add_closed_values : goal.decreases-add_closed_values
decreases-add_closed_values l = l.levels
