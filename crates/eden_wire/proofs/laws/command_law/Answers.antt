use Rattle.eden_ids.proofs.Texts.{bytes_at}
use Rattle.eden_wire.proofs.DoLaws.{command_read, command_spelled}
use Rattle.eden_wire.proofs.laws.command_law.Goals as goal

pub returns-clause-decoded : goal.returns-clause-decoded
returns-clause-decoded c = command_read

pub returns-clause-encoded : goal.returns-clause-encoded
returns-clause-encoded c = λ body command bytes read. command_spelled body command (bytes_at body bytes) read
