use Rattle.std.proofs.Common.{None}
use Rattle.std.specs.Option.{option_copied}
use Rattle.std.proofs.lemmas.Result.{err_from_is_err_and}
use Rattle.eden_wire.specs.Formats.{items_at}
use Rattle.eden_wire.specs.Attributes.{ascending_files, file_within}
use Rattle.eden_wire.proofs.Loops.{items_go_on, items_end, items_done}
use Rattle.eden_wire.proofs.attributes.list_of.Goals as goal

pub returns-in_err-file : goal.returns-in_err-file
returns-in_err-file c =
    let p = err_from_is_err_and c.from_residual.result c.from_residual.ensures.1 in
    let refused = rw c.as_slice.ensures.value at c.in_err-file.ensures in
    rw (p.1, p.2) (items_end (file_within (option_copied c.args.prefix)) ascending_files c.loop.list.items c.args.count c.loop.counter c.loop.rest.now
    (items_at (file_within (option_copied c.args.prefix)) ascending_files c.args.count None c.args.bytes.now) c.in_err-file.field-0.0 c.loop-test.true refused c.loop.invariant)

pub loop-preserved : goal.loop-preserved
loop-preserved c =
    let read = rw c.as_slice.ensures.value at c.in_ok-file.ensures in
    rw c.in_ok-push.ensures.items (items_go_on (file_within (option_copied c.args.prefix)) ascending_files c.loop.list.items c.args.count c.loop.counter c.loop.rest.now
    (items_at (file_within (option_copied c.args.prefix)) ascending_files c.args.count None c.args.bytes.now) c.in_ok-file.file c.in_ok-file.after.now c.loop-test.true read c.loop.invariant)

pub returns : goal.returns
returns c =
    items_done (file_within (option_copied c.args.prefix)) ascending_files c.loop.list.items c.args.count c.loop.counter c.loop.rest.now
    (items_at (file_within (option_copied c.args.prefix)) ascending_files c.args.count None c.args.bytes.now) c.loop-test.false c.loop.invariant
