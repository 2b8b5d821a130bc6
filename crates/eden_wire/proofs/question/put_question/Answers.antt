use Rattle.std.proofs.Common.{◌∷◌, ◌++◌}
use Rattle.eden_messages.specs.Spells.{excluded_bytes, filter_bytes, query_bytes}
use Rattle.eden_wire.proofs.Written.{after}
use Rattle.eden_wire.proofs.question.put_question.Goals as goal

pub returns-in_ok-put_head-in-Status-clause-told : goal.returns-in_ok-put_head-in-Status-clause-told
returns-in_ok-put_head-in-Status-clause-told c =
    let status = c.in-Status in
    let head = 2 ∷ 10 ∷ query_bytes status.query in
    let filter = filter_bytes status.filter.included in
    let result = c.put_included-in-Status.result in
    let new = c.put_included-in-Status.new.out.items in
    rw status.is (after result c.args.out.now.items (excluded_bytes status.filter.excluded) (head ++ filter) c.put_excluded-in-Status.new.out.items new
    c.in_ok-put_excluded-in-Status.ensures.told
    (after result c.put_excluded-in-Status.new.out.items head filter c.put_head-in-Status.new.out.items new c.in_ok-put_head-in-Status.ensures.told
    c.put_included-in-Status.ensures.told))
