use Rattle.std.proofs.Common.{◌≡◌, ◌-◌, None, map}
use Rattle.eden_wire.specs.Formats.{items_at}
use Rattle.eden_wire.specs.Messages.{text, any_order}
use Rattle.eden_wire.specs.internal.Listing.{last_item}
use Rattle.eden_wire.proofs.Loops.{with_front}
use Rattle.eden_wire.proofs.fields.patterns_of.Given as goal

-- what was read, and what is still to be read, is all of it
abbrev pub invariant-loop : goal.invariant-loop
invariant-loop l =
    with_front (map (λ p. p.now) l.patterns.items) (items_at (text 256) any_order (l.count - l.counter) (last_item (map (λ p. p.now) l.patterns.items)) l.rest)
    ≡ items_at (text 256) any_order l.count None l.bytes
