use Rattle.test_shared.proofs.pass_tests.callers_spent.Given as goal

abbrev pub ghosts-all_passes : goal.ghosts-all_passes
ghosts-all_passes g a = record { name = a.blank.name; parts = a.blank.parts }
