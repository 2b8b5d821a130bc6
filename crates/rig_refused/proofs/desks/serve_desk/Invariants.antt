use Rattle.rig_refused.proofs.desks.serve_desk.Given as goal

abbrev pub ghosts-serve_office : goal.ghosts-serve_office
ghosts-serve_office g a = record { name = a.blank.name; parts = a.blank.parts }
