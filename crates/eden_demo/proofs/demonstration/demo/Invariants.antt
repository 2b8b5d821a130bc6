use Rattle.eden_demo.proofs.demonstration.demo.Given as goal

abbrev pub ghosts-run_behind : goal.ghosts-run_behind
ghosts-run_behind g a = record { name = a.blank.name; parts = a.blank.parts }
