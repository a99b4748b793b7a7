use Rattle.component_rows.proofs.builds.built.Given as goal

abbrev pub ghosts-built_by : goal.ghosts-built_by
ghosts-built_by a = record { name = a.blank.name; parts = a.blank.parts }
