use Rattle.eden_accumulate.specs.Mounts.{StandsFor}
use Rattle.eden_serve.proofs.program.serve_listener.Given as goal

abbrev pub ghosts-serve_connections : goal.ghosts-serve_connections
ghosts-serve_connections g a = record { name = a.blank.name; parts = a.blank.parts }

abbrev pub ghosts-serve_input-L-Ledger : goal.ghosts-serve_input-L-Ledger
ghosts-serve_input-L-Ledger g a = record { name = a.blank.name; parts = a.blank.parts }

-- the worlds for which the mount stands that the script has opened
abbrev pub ghosts-serve_input-L-Origin : goal.ghosts-serve_input-L-Origin
ghosts-serve_input-L-Origin g a = record { opens = λ world. StandsFor a.service.mount world }
