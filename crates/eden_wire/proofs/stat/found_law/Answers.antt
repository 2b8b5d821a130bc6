use Rattle.eden_wire.proofs.stat.found_law.Goals as goal

pub returns-in-Some : goal.returns-in-Some
returns-in-Some c = rw c.in-Some.is c.stat_law.ensures
