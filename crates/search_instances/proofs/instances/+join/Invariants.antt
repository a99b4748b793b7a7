use Rattle.search_instances.proofs.instances.+join.Given as goal

abbrev pub decreases-join : goal.decreases-join
decreases-join l = l.levels

abbrev pub decreases-join_matches : goal.decreases-join_matches
decreases-join_matches l = l.levels
