use Rattle.eden_accumulate.specs.Mounts.{StandsFor}
use Rattle.test_shared.proofs.change_frame_tests.end_of.Given as goal

abbrev pub ghosts-end_behind-L-Ledger : goal.ghosts-end_behind-L-Ledger
ghosts-end_behind-L-Ledger g a = record { name = a.blank.name; parts = a.blank.parts }

abbrev pub ghosts-end_behind-L-Origin : goal.ghosts-end_behind-L-Origin
ghosts-end_behind-L-Origin g a = record { opens = λ world. StandsFor a.mount world }
