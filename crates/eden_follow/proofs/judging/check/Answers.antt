use Rattle.std.proofs.Common.{map}
use Rattle.std.proofs.lemmas.Result.{IfErr-weaker, err_from_is_err_and, on_ok_weaker}
use Rattle.eden_logs.specs.Logs.{entries_in}
use Rattle.eden_follow.specs.internal.Rows.{told}
use Rattle.eden_follow.proofs.Judged.{against_first, against_strange, vouches}
use Rattle.eden_follow.proofs.judging.check.Goals as goal

pub returns-in_err-check_notes-clause-against : goal.returns-in_err-check_notes-clause-against
returns-in_err-check_notes-clause-against c =
    let p = err_from_is_err_and c.from_residual.result c.from_residual.ensures.1 in
    rw (p.1, p.2) (λ logs m lists one two. against_first logs m c.args.notes.now c.in_err-check_notes.field-0.0 (c.in_err-check_notes.ensures.cause (entries_in logs) lists))

pub returns-clause-vouched : goal.returns-clause-vouched
returns-clause-vouched c =
    on_ok_weaker c.check_requests.result (λ all logs m lists one two.
    vouches logs m (map told c.args.replies.now) c.args.rows.now c.check_notes.new.rows c.args.id c.args.life c.args.notes.now lists one two c.check_notes.ensures.rows
    c.in_ok-check_notes.ensures.marked (c.in_ok-check_notes.ensures.vouched (entries_in logs) lists) all) c.check_requests.ensures.all

pub returns-clause-against : goal.returns-clause-against
returns-clause-against c =
    IfErr-weaker c.check_requests.result _ _ (λ f has logs m lists one two.
    against_strange logs m (map told c.args.replies.now) c.args.rows.now c.check_notes.new.rows c.args.id c.args.life c.args.notes.now f lists one two c.check_notes.ensures.rows
    c.in_ok-check_notes.ensures.marked (c.in_ok-check_notes.ensures.vouched (entries_in logs) lists) has) c.check_requests.ensures.strange
