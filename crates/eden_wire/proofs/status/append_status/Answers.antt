use Rattle.std.proofs.Common.{ℕ, List, ◌++◌, ap, ◌∙◌}
use Rattle.eden_wire.specs.Statuses.{status_bytes, status_is}
use Rattle.eden_wire.proofs.StatLaws.{spelled_framed}
use Rattle.eden_wire.proofs.Written.{framed, kept_body, small_is}
use Rattle.eden_wire.proofs.status.append_status.Goals as goal

pub returns-clause-exact : goal.returns-clause-exact
returns-clause-exact c =
    let message = c.args.status.now in
    let body = status_bytes message in
    let small = small_is body c.in-Some.len c.in-Some.ensures in
    let old = c.args.text.now.items in
    rw (kept_body message.query body small.1) (framed c.put_status.result body c.in-Some.len old c.put_bytes.new.out.items c.put_status.new.out.items small.0
    (c.in_ok-put_bytes.ensures.told ∙ ap (λ (text : List ℕ). old ++ text) c.to_be_bytes.ensures) c.put_status.ensures.told)

pub returns-clause-spelled : goal.returns-clause-spelled
returns-clause-spelled c = λ body spells.
    let message = c.args.status.now in
    let small = small_is (status_bytes message) c.in-Some.len c.in-Some.ensures in
    let old = c.args.text.now.items in
    spelled_framed 138 status_is message message.query body c.put_status.result old c.put_status.new.out.items spells
    (rw (kept_body message.query (status_bytes message) small.1) (framed c.put_status.result (status_bytes message) c.in-Some.len old c.put_bytes.new.out.items c.put_status.new.out.items small.0
    (c.in_ok-put_bytes.ensures.told ∙ ap (λ (text : List ℕ). old ++ text) c.to_be_bytes.ensures) c.put_status.ensures.told))
