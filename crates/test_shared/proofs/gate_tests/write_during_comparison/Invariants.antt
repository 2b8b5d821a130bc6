use Rattle.test_shared.proofs.gate_tests.write_during_comparison.Given as goal

abbrev pub ghosts-overlapped : goal.ghosts-overlapped
ghosts-overlapped g a = record { name = a.blank.name; parts = a.blank.parts }
