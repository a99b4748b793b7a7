use Rattle.search_instances.proofs.instances.+cost.Given as goal

abbrev pub decreases-cost : goal.decreases-cost
decreases-cost l = l.levels
