use Rattle.std.proofs.Common.{◌≡◌, ◌-◌, None}
use Rattle.std.specs.Option.{option_copied}
use Rattle.eden_wire.specs.Formats.{items_at}
use Rattle.eden_wire.specs.Attributes.{ascending_files, file_within}
use Rattle.eden_wire.specs.internal.Listing.{last_item}
use Rattle.eden_wire.proofs.Loops.{with_front}
use Rattle.eden_wire.proofs.attributes.list_of.Given as goal

-- what was read, and what is still to be read, is all of it
abbrev pub invariant-loop : goal.invariant-loop
invariant-loop l =
    with_front l.list.items (items_at (file_within (option_copied l.prefix)) ascending_files (l.count - l.counter) (last_item l.list.items) l.rest) ≡ items_at (file_within (option_copied l.prefix)) ascending_files l.count None l.bytes
