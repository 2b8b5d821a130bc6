use Rattle.std.proofs.Common.{◌≡◌, ◌-◌, None}
use Rattle.std.specs.Option.{option_copied}
use Rattle.eden_wire.specs.Formats.{only, items_at}
use Rattle.eden_wire.specs.Messages.{path, is_above, is_within}
use Rattle.eden_wire.specs.internal.Listing.{last_item}
use Rattle.eden_wire.proofs.Loops.{with_front}
use Rattle.eden_wire.proofs.decoding.paths_of.Given as goal

-- what was read, and what is still to be read, is all of it
abbrev pub invariant-loop : goal.invariant-loop
invariant-loop l =
    with_front l.list.items (items_at (only path (is_within (option_copied l.prefix))) is_above (l.count - l.counter) (last_item l.list.items) l.rest) ≡ items_at (only path (is_within (option_copied l.prefix))) is_above l.count None l.bytes
