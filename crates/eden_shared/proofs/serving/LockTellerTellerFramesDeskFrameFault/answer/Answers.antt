use Rattle.eden_shared.specs.Gives.{IsMade, IsSaid, IsTurnOf}
use Rattle.eden_shared.specs.Servings.{reading}
use Rattle.eden_shared.proofs.Carried.{desk_tells}
use Rattle.eden_shared.proofs.serving.LockTellerTellerFramesDeskFrameFault.answer.Goals as goal

pub returns : goal.returns
returns g c = λ before items sent told.
    desk_tells (reading c.args.self.now.writable) (IsSaid (IsTurnOf g.T.Served.stored) g.N.Naming.id g.T.Served.stands_for g.T.Served.held g.T.Served.hold_gives)
    (IsMade (IsTurnOf g.T.Served.stored) g.N.Naming.id g.T.Served.stands_for g.T.Served.apply_gives) before c.args.desk.now c.answer_body.new.desk items sent c.args.body.now
    c.args.text.now.items c.answer_body.new.text.items c.answer_body.result c.answer_body.ensures told
