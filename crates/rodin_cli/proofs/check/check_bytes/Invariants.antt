use Rattle.rodin_cli.proofs.check.check_bytes.Given as goal

abbrev pub ghosts-check_parts : goal.ghosts-check_parts
ghosts-check_parts g a = record { name = a.blank.name; parts = a.blank.parts }
