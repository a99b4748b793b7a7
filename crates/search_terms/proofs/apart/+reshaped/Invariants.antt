use Rattle.search_terms.proofs.apart.+reshaped.Given as goal

abbrev pub decreases-reshaped : goal.decreases-reshaped
decreases-reshaped l = l.levels
