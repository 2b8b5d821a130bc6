use Rattle.eden_accumulate.specs.Mounts.{StandsFor}
use Rattle.test_shared.proofs.unlogged_thread_tests.four_threads_change_and_ask.Given as goal

abbrev pub ghosts-four_threads-L-Ledger : goal.ghosts-four_threads-L-Ledger
ghosts-four_threads-L-Ledger g a = record { name = a.blank.name; parts = a.blank.parts }

abbrev pub ghosts-four_threads-L-Origin : goal.ghosts-four_threads-L-Origin
ghosts-four_threads-L-Origin g a = record { opens = λ world. StandsFor a.mount world }
