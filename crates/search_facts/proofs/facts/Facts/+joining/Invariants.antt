use Rattle.search_facts.proofs.facts.Facts.+joining.Given as goal

abbrev pub decreases-join_witness : goal.decreases-join_witness
decreases-join_witness l = l.levels

abbrev pub decreases-join_bounds : goal.decreases-join_bounds
decreases-join_bounds l = l.levels

abbrev pub decreases-join_members : goal.decreases-join_members
decreases-join_members l = l.levels
