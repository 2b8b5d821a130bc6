use Rattle.eden_wire.specs.Commands.{read_command}
use Rattle.eden_shared.specs.Gives.{IsMade, IsSaid, IsTurnOf}
use Rattle.eden_shared.proofs.Carried.{serves_none}
use Rattle.eden_shared.proofs.serving.serve_shared_writable.Goals as goal

pub returns-clause-ends : goal.returns-clause-ends
returns-clause-ends g c =
    c.tell_frames.ensures.ends c.args.desk.now
    (serves_none read_command (IsSaid (IsTurnOf g.T.Served.stored) g.N.Naming.id g.T.Served.stands_for g.T.Served.held g.T.Served.hold_gives c.args.desk.now.caller)
    (IsMade (IsTurnOf g.T.Served.stored) g.N.Naming.id g.T.Served.stands_for g.T.Served.apply_gives c.args.desk.now.caller) c.args.desk.now)
