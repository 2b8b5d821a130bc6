use Rattle.test_shared.proofs.frame_tests.frame_faults.Given as goal

abbrev pub ghosts-serves : goal.ghosts-serves
ghosts-serves g a = record { name = a.blank.name; parts = a.blank.parts }
