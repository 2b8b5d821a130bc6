-- The rows of segments, in the order in which they were added.
use Rattle.std.specs.Prelude.{List, ◌++◌}
use Rattle.std.specs.List.{flat_map}
use Rattle.std.specs.Arc.{arc_value}
use Rattle.std.specs.declared.sync.Arc.{Arc}
use Rattle.eden_ids.specs.declared.id.Id.{Id}

-- frozen segments, oldest first
abbrev pub Frozen : Type 0 → Type 0 → Type 0
Frozen V Z = List (Arc (List (Id × V)) Z)

module _ {V Z : Type 0} where
  abbrev pub frozen_rows : Frozen V Z → List (Id × V)
  frozen_rows frozen = flat_map arc_value frozen

  -- with the rows of the newest segment after them
  abbrev pub stored : Frozen V Z → List (Id × V) → List (Id × V)
  stored frozen newest = frozen_rows frozen ++ newest
