use Rattle.eden_accumulate.specs.Mounts.{StandsFor}
use Rattle.test_shared.proofs.unlogged_call_tests.replies_are_of_the_hold.Given as goal

abbrev pub ghosts-call_and_finish-L-Ledger : goal.ghosts-call_and_finish-L-Ledger
ghosts-call_and_finish-L-Ledger g a = record { name = a.blank.name; parts = a.blank.parts }

abbrev pub ghosts-call_and_finish-L-Origin : goal.ghosts-call_and_finish-L-Origin
ghosts-call_and_finish-L-Origin g a = record { opens = λ world. StandsFor a.mount world }
