use Rattle.project_session.proofs.session.open_and_run.Given as goal

abbrev pub ghosts-open_store : goal.ghosts-open_store
ghosts-open_store g a = record { name = a.blank.name; parts = a.blank.parts }
