use Rattle.project_store.proofs.opening.open_core.Given as goal

abbrev pub ghosts-replay : goal.ghosts-replay
ghosts-replay g a = record { name = a.blank.name; parts = a.blank.parts }
