-- The frames say of the server what they say at each end, and no body changes it.
use Rattle.eden_query.proofs.Asking.{replies_alike, replies_as, serving_ends, serving_none, serving_stays}
use Rattle.eden_query.specs.Answers.{answer_to}
use Rattle.eden_query.specs.Commands.{read_asking}
use Rattle.eden_query.specs.Servers.{Does}
use Rattle.eden_query.specs.Servings.{serving_story}
use Rattle.eden_query.proofs.serving.serve.Goals as goal

pub returns-clause-asks : goal.returns-clause-asks
returns-clause-asks g c =
    let does = Does g.T.Served.hold_gives g.T.Served.apply_gives 0 in
    c.tell_frames.ensures.ends c.args.server.now (serving_none g.N.Naming.id read_asking g.T.Served.stands_for does c.args.server.now)

pub returns-clause-ends : goal.returns-clause-ends
returns-clause-ends g c = λ world s.
    let name = g.N.Naming.id in
    let stands_for = g.T.Served.stands_for in
    let does = Does g.T.Served.hold_gives g.T.Served.apply_gives 0 in
    let before = c.args.server.now in
    let now = c.tell_frames.new.server in
    let story = serving_story name read_asking stands_for does before now in
    serving_ends (λ _. answer_to name world) (λ _. stands_for now world) story
    (replies_alike name world (stands_for now) story (replies_as name read_asking stands_for does before now world s))
    (g.R.Read.remaining c.args.reader.now) (g.R.Read.remaining c.tell_frames.new.reader) (g.W.Write.contents c.args.writer.now) (g.W.Write.contents c.tell_frames.new.writer)
    c.tell_frames.result (c.tell_frames.ensures.ends before (serving_none name read_asking stands_for does before))

pub returns-clause-stands : goal.returns-clause-stands
returns-clause-stands g c = λ world s.
    let name = g.N.Naming.id in
    let stands_for = g.T.Served.stands_for in
    let does = Does g.T.Served.hold_gives g.T.Served.apply_gives 0 in
    let before = c.args.server.now in
    let now = c.tell_frames.new.server in
    let story = serving_story name read_asking stands_for does before now in
    serving_stays (λ _. answer_to name world) (stands_for now world) story
    (replies_alike name world (stands_for now) story (replies_as name read_asking stands_for does before now world s))
    (g.R.Read.remaining c.args.reader.now) (g.R.Read.remaining c.tell_frames.new.reader) (g.W.Write.contents c.args.writer.now) (g.W.Write.contents c.tell_frames.new.writer)
    c.tell_frames.result (c.tell_frames.ensures.ends before (serving_none name read_asking stands_for does before))
