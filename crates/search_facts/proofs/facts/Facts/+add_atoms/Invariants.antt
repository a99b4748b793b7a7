use Rattle.search_facts.proofs.facts.Facts.+add_atoms.Given as goal

abbrev pub decreases-add_atoms : goal.decreases-add_atoms
decreases-add_atoms l = l.levels
