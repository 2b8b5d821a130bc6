use Rattle.example_build.proofs.main.Given as goal

abbrev pub ghosts-build : goal.ghosts-build
ghosts-build g a = record { name = a.blank.name; parts = a.blank.parts }
