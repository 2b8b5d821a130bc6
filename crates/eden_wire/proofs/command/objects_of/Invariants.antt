use Rattle.std.proofs.Common.{◌≡◌, ◌-◌, None}
use Rattle.eden_wire.specs.Commands.{object}
use Rattle.eden_wire.specs.Formats.{items_at}
use Rattle.eden_wire.specs.Messages.{any_order}
use Rattle.eden_wire.specs.internal.Listing.{last_item}
use Rattle.eden_wire.proofs.Loops.{with_front}
use Rattle.eden_wire.proofs.command.objects_of.Given as goal

-- what was read, and what is still to be read, is all of it
abbrev pub invariant-loop : goal.invariant-loop
invariant-loop l =
    with_front l.list.items (items_at object any_order (l.count - l.counter) (last_item l.list.items) l.rest) ≡ items_at object any_order l.count None l.bytes
