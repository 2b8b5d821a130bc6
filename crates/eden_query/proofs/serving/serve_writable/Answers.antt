-- The frames say of the server what they say at each end.
use Rattle.eden_query.proofs.Asking.{replies_as, serving_ends, serving_none}
use Rattle.eden_query.specs.Commands.{after, answers_in}
use Rattle.eden_query.specs.Servers.{Does}
use Rattle.eden_query.specs.Servings.{serving_story}
use Rattle.eden_wire.specs.Commands.{read_command}
use Rattle.eden_query.proofs.serving.serve_writable.Goals as goal

pub returns-clause-asks : goal.returns-clause-asks
returns-clause-asks g c =
    let does = Does g.T.Served.hold_gives g.T.Served.apply_gives 0 in
    c.tell_frames.ensures.ends c.args.server.now (serving_none g.N.Naming.id read_command g.T.Served.stands_for does c.args.server.now)

pub returns-clause-ends : goal.returns-clause-ends
returns-clause-ends g c = λ world s.
    let name = g.N.Naming.id in
    let stands_for = g.T.Served.stands_for in
    let does = Does g.T.Served.hold_gives g.T.Served.apply_gives 0 in
    let before = c.args.server.now in
    let now = c.tell_frames.new.server in
    serving_ends (answers_in name read_command world) (λ bodies. stands_for now (after name read_command world bodies)) (serving_story name read_command stands_for does before now)
    (replies_as name read_command stands_for does before now world s)
    (g.R.Read.remaining c.args.reader.now) (g.R.Read.remaining c.tell_frames.new.reader) (g.W.Write.contents c.args.writer.now) (g.W.Write.contents c.tell_frames.new.writer)
    c.tell_frames.result (c.tell_frames.ensures.ends before (serving_none name read_command stands_for does before))
