use Rattle.rig_refused.proofs.desks.call.Given as goal

abbrev pub ghosts-call_all : goal.ghosts-call_all
ghosts-call_all g a = record { name = a.blank.name; parts = a.blank.parts }
