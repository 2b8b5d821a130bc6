use Rattle.std.proofs.Common.{None, ◌∙◌}
use Rattle.std.proofs.lemmas.Result.{err_from_is_err_and}
use Rattle.eden_wire.specs.Commands.{object}
use Rattle.eden_wire.specs.Formats.{items_at}
use Rattle.eden_wire.specs.Messages.{any_order}
use Rattle.eden_wire.proofs.Loops.{items_go_on, items_end, items_done, in_any_place}
use Rattle.eden_wire.proofs.command.objects_of.Goals as goal

pub returns-in_err-object : goal.returns-in_err-object
returns-in_err-object c =
    let p = err_from_is_err_and c.from_residual.result c.from_residual.ensures.1 in
    rw (p.1, p.2) (items_end object any_order c.loop.list.items c.args.count c.loop.counter c.loop.rest.now
    (items_at object any_order c.args.count None c.args.bytes.now) c.in_err-object.field-0.0 c.loop-test.true
    (λ told. in_any_place (object.read c.loop.rest.now) ∙ c.in_err-object.ensures told) c.loop.invariant)

pub loop-preserved : goal.loop-preserved
loop-preserved c =
    rw c.in_ok-push.ensures.items (items_go_on object any_order c.loop.list.items c.args.count c.loop.counter c.loop.rest.now
    (items_at object any_order c.args.count None c.args.bytes.now) c.in_ok-object.object c.in_ok-object.after.now c.loop-test.true
    (in_any_place (object.read c.loop.rest.now) ∙ c.in_ok-object.ensures) c.loop.invariant)

pub returns : goal.returns
returns c = items_done object any_order c.loop.list.items c.args.count c.loop.counter c.loop.rest.now
    (items_at object any_order c.args.count None c.args.bytes.now) c.loop-test.false c.loop.invariant
