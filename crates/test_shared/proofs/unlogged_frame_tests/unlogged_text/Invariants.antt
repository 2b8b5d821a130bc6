use Rattle.eden_accumulate.specs.Mounts.{StandsFor}
use Rattle.test_shared.proofs.unlogged_frame_tests.unlogged_text.Given as goal

abbrev pub ghosts-unlogged_end-L-Ledger : goal.ghosts-unlogged_end-L-Ledger
ghosts-unlogged_end-L-Ledger g a = record { name = a.blank.name; parts = a.blank.parts }

abbrev pub ghosts-unlogged_end-L-Origin : goal.ghosts-unlogged_end-L-Origin
ghosts-unlogged_end-L-Origin g a = record { opens = λ world. StandsFor a.mount world }
