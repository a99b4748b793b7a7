use Rattle.rule_rows.proofs.trees.add_at.Given as goal

abbrev pub ghosts-leaf_counted : goal.ghosts-leaf_counted
ghosts-leaf_counted a = record { name = a.blank.name; parts = a.blank.parts }
