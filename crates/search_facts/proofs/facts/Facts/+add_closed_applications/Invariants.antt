use Rattle.search_facts.proofs.facts.Facts.+add_closed_applications.Given as goal

abbrev pub decreases-add_closed_applications : goal.decreases-add_closed_applications
decreases-add_closed_applications l = l.levels
