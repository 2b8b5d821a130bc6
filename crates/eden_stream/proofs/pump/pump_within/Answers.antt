-- With no buffer nothing was read.
use Rattle.std.proofs.Common.{false, []}
use Rattle.eden_stream.proofs.Account.{ran_halted, ran_start}
use Rattle.eden_stream.proofs.pump.pump_within.Goals as goal

pub returns-in-Err-clause-ends : goal.returns-in-Err-clause-ends
returns-in-Err-clause-ends g c = λ before told. (
  false,
  0,
  [],
  ran_halted (g.S.Teller.story c.args.teller.now before c.args.server.now) (ran_start g.met.F.Framing.lawful (g.S.Teller.story c.args.teller.now before c.args.server.now)
      (g.R.Read.remaining c.args.reader.now) (g.W.Write.contents c.args.writer.now) told),
)
