use Rattle.proof_search.proofs.finder.Finder.+solve.Given as goal

abbrev pub decreases-solve : goal.decreases-solve
decreases-solve l = l.levels

abbrev pub decreases-turn : goal.decreases-turn
decreases-turn l = l.levels

abbrev pub decreases-carry_out : goal.decreases-carry_out
decreases-carry_out l = l.levels

abbrev pub decreases-prove_left : goal.decreases-prove_left
decreases-prove_left l = l.levels
