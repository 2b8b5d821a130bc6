-- Patterns that the copies of a filter share.
use Rattle.std.specs.Prelude.{ℕ, List, [], Option, Some, None}
use Rattle.std.specs.Arc.{arc_value}
use Rattle.std.specs.declared.sync.Arc.{Arc}

-- the patterns of a filter; one without patterns stores none
abbrev pub patterns_of : {Z : Type 0} → Option (Arc (List (List ℕ)) Z) → List (List ℕ)
patterns_of None = []
patterns_of (Some stored) = arc_value stored
