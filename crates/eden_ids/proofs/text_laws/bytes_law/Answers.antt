use Rattle.std.proofs.Common.{arith}
use Rattle.eden_ids.proofs.Texts.{bytes_are}
use Rattle.eden_ids.proofs.text_laws.bytes_law.Goals as goal

pub returns : goal.returns
returns c = bytes_are c.args.bytes.now (λ i. omega (arith, c.type_inv.bytes i))
