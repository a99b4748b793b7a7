use Rattle.search_terms.proofs.apart.+shape.Given as goal

abbrev pub decreases-shape : goal.decreases-shape
decreases-shape l = l.levels
