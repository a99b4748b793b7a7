use Rattle.search_terms.proofs.matching.+matches.Given as goal

abbrev pub decreases-matches : goal.decreases-matches
decreases-matches l = l.levels
