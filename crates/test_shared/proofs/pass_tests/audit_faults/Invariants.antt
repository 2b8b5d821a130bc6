use Rattle.test_shared.proofs.pass_tests.audit_faults.Given as goal

abbrev pub ghosts-two_callers : goal.ghosts-two_callers
ghosts-two_callers g a = record { name = a.blank.name; parts = a.blank.parts }
