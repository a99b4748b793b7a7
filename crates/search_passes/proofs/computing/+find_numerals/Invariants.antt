use Rattle.search_passes.proofs.computing.+find_numerals.Given as goal

abbrev pub decreases-find_numerals : goal.decreases-find_numerals
decreases-find_numerals l = l.levels
