use Rattle.std.proofs.Common.{None}
use Rattle.std.specs.Option.{option_copied}
use Rattle.std.proofs.lemmas.Result.{err_from_is_err_and}
use Rattle.eden_wire.specs.Formats.{only, items_at}
use Rattle.eden_wire.specs.Messages.{path, is_above, is_within}
use Rattle.eden_wire.proofs.Loops.{items_go_on, items_end, items_done}
use Rattle.eden_wire.proofs.decoding.paths_of.Goals as goal

pub returns-in_err-path : goal.returns-in_err-path
returns-in_err-path c =
    let p = err_from_is_err_and c.from_residual.result c.from_residual.ensures.1 in
    let refused = rw c.as_slice.ensures.value at c.in_err-path.ensures in
    rw (p.1, p.2) (items_end (only path (is_within (option_copied c.args.prefix))) is_above c.loop.list.items c.args.count c.loop.counter c.loop.rest.now
    (items_at (only path (is_within (option_copied c.args.prefix))) is_above c.args.count None c.args.bytes.now) c.in_err-path.field-0.0 c.loop-test.true refused c.loop.invariant)

pub loop-preserved : goal.loop-preserved
loop-preserved c =
    let read = rw c.as_slice.ensures.value at c.in_ok-path.ensures in
    rw c.in_ok-push.ensures.items (items_go_on (only path (is_within (option_copied c.args.prefix))) is_above c.loop.list.items c.args.count c.loop.counter c.loop.rest.now
    (items_at (only path (is_within (option_copied c.args.prefix))) is_above c.args.count None c.args.bytes.now) c.in_ok-path.path c.in_ok-path.after.now c.loop-test.true read c.loop.invariant)

pub returns : goal.returns
returns c =
    items_done (only path (is_within (option_copied c.args.prefix))) is_above c.loop.list.items c.args.count c.loop.counter c.loop.rest.now
    (items_at (only path (is_within (option_copied c.args.prefix))) is_above c.args.count None c.args.bytes.now) c.loop-test.false c.loop.invariant
