use Rattle.eden_accumulate.specs.Mounts.{StandsFor}
use Rattle.test_shared.proofs.change_thread_tests.two_connections_change_and_ask.Given as goal

abbrev pub ghosts-two_threads-L-Ledger : goal.ghosts-two_threads-L-Ledger
ghosts-two_threads-L-Ledger g a = record { name = a.blank.name; parts = a.blank.parts }

abbrev pub ghosts-two_threads-L-Origin : goal.ghosts-two_threads-L-Origin
ghosts-two_threads-L-Origin g a = record { opens = λ world. StandsFor a.mount world }
