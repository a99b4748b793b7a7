use Rattle.case_proofs.proofs.search.+refuted.Given as goal

abbrev pub decreases-refuted : goal.decreases-refuted
decreases-refuted l = l.fuel
