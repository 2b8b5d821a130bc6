use Rattle.test_shared.proofs.desk_change_tests.desk_changes_over_frames.Given as goal

abbrev pub ghosts-is_audited : goal.ghosts-is_audited
ghosts-is_audited g a = record { name = a.blank.name; parts = a.blank.parts }
