use Rattle.eden_accumulate.specs.Mounts.{StandsFor}
use Rattle.test_shared.proofs.patience_tests.play_alone.Given as goal

abbrev pub ghosts-play_behind-L-Ledger : goal.ghosts-play_behind-L-Ledger
ghosts-play_behind-L-Ledger g a = record { name = a.blank.name; parts = a.blank.parts }

abbrev pub ghosts-play_behind-L-Origin : goal.ghosts-play_behind-L-Origin
ghosts-play_behind-L-Origin g a = record { opens = λ world. StandsFor a.mount world }
