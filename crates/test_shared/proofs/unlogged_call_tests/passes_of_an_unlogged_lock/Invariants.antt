use Rattle.eden_accumulate.specs.Mounts.{StandsFor}
use Rattle.test_shared.proofs.unlogged_call_tests.passes_of_an_unlogged_lock.Given as goal

abbrev pub ghosts-give_all-L-Ledger : goal.ghosts-give_all-L-Ledger
ghosts-give_all-L-Ledger g a = record { name = a.blank.name; parts = a.blank.parts }

abbrev pub ghosts-give_all-L-Origin : goal.ghosts-give_all-L-Origin
ghosts-give_all-L-Origin g a = record { opens = λ world. StandsFor a.mount world }
