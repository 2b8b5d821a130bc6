use Rattle.test_examples.proofs.example_tests.examples.Given as goal

abbrev pub ghosts-eden_shared_example-L-Ledger : goal.ghosts-eden_shared_example-L-Ledger
ghosts-eden_shared_example-L-Ledger g a = record { name = a.blank.name; parts = a.blank.parts }

abbrev pub ghosts-eden_shared_example-K-Ledger : goal.ghosts-eden_shared_example-K-Ledger
ghosts-eden_shared_example-K-Ledger g a = record { name = a.other.name; parts = a.other.parts }
