use Rattle.test_shared.proofs.gate_tests.write_before_the_hold.Given as goal

abbrev pub ghosts-overlapped : goal.ghosts-overlapped
ghosts-overlapped g a = record { name = a.blank.name; parts = a.blank.parts }
