use Rattle.rodin_rows.proofs.trees.+cuts.Given as goal

abbrev pub decreases-cuts : goal.decreases-cuts
decreases-cuts l = l.depth
