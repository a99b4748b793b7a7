use Rattle.search_passes.proofs.sums.+values_in.Given as goal

abbrev pub decreases-values_in : goal.decreases-values_in
decreases-values_in l = l.levels
