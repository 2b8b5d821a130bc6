use Rattle.test_shared.proofs.desk_tests.four_desks.Given as goal

abbrev pub ghosts-four_callers : goal.ghosts-four_callers
ghosts-four_callers g a = record { name = a.blank.name; parts = a.blank.parts }
