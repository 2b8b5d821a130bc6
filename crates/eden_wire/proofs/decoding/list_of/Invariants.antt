use Rattle.std.proofs.Common.{◌≡◌, ◌-◌, None}
use Rattle.eden_wire.specs.Formats.{items_at}
use Rattle.eden_wire.specs.Messages.{marked_path, ascending_marks}
use Rattle.eden_wire.specs.internal.Listing.{last_item}
use Rattle.eden_wire.proofs.Loops.{with_front}
use Rattle.eden_wire.proofs.decoding.list_of.Given as goal

-- what was read, and what is still to be read, is all of it
abbrev pub invariant-loop : goal.invariant-loop
invariant-loop l =
    with_front l.list.items (items_at marked_path ascending_marks (l.count - l.counter) (last_item l.list.items) l.rest) ≡ items_at marked_path ascending_marks l.count None l.bytes
