use Rattle.std.proofs.Common.{◌≡◌, ◌≤◌, ◌+◌, ◌*◌, length, take}
use Rattle.std.specs.List.{flat_map}
use Rattle.eden_globs.specs.Filters.{lists}
use Rattle.eden_messages.specs.Spells.{text_bytes}
use Rattle.eden_messages.proofs.lengths.len_of_patterns.Given as goal

abbrev pub invariant-loop-pattern : goal.invariant-loop-pattern
invariant-loop-pattern l =
    (l.len ≡ 1 + length (flat_map text_bytes (lists (take l.pattern-index l.patterns)))) × (l.len ≤ 1 + 258 * l.pattern-index)
