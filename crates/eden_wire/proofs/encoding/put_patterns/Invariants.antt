use Rattle.std.proofs.Common.{◌≡◌, ◌++◌, ◌∷◌, length, take}
use Rattle.std.specs.List.{flat_map}
use Rattle.eden_globs.specs.Filters.{lists}
use Rattle.eden_ids.specs.Fronts.{KeepsFront}
use Rattle.eden_messages.specs.Spells.{text_bytes}
use Rattle.eden_wire.proofs.encoding.put_patterns.Given as goal

abbrev pub invariant-loop-pattern : goal.invariant-loop-pattern
invariant-loop-pattern l =
    (l.out.items ≡ l.fn.out.items ++ (length l.patterns ∷ flat_map text_bytes (lists (take l.pattern-index l.patterns))))
    × KeepsFront l.fn.out.items l.out.items
