use Rattle.rodin_cli.proofs.demo.run_demo.Given as goal

abbrev pub ghosts-demonstrate : goal.ghosts-demonstrate
ghosts-demonstrate g a = record { name = a.blank.name; parts = a.blank.parts }
