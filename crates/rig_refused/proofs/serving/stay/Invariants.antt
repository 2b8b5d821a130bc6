use Rattle.eden_accumulate.specs.Mounts.{StandsFor}
use Rattle.rig_refused.proofs.serving.stay.Given as goal

abbrev pub ghosts-stay_behind-L-Ledger : goal.ghosts-stay_behind-L-Ledger
ghosts-stay_behind-L-Ledger g a = record { name = a.blank.name; parts = a.blank.parts }

abbrev pub ghosts-stay_behind-L-Origin : goal.ghosts-stay_behind-L-Origin
ghosts-stay_behind-L-Origin g a = record { opens = λ world. StandsFor a.mount world }
