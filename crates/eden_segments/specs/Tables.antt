-- Tables from ids to values, newest row first.
use Rattle.std.specs.Prelude.{◌≡◌, List, [], ◌∷◌, None}
use Rattle.std.specs.Map.{lookup}
use Rattle.eden_ids.specs.declared.id.Id.{Id}
use Rattle.eden_ids.specs.Sameness.{same_id}

-- each id occurs once
abbrev pub AreDistinct : {V : Type 0} → List (Id × V) → Type 0
AreDistinct [] = Unit {0}
AreDistinct (row ∷ rows) = (lookup (same_id row.0) rows ≡ None) × AreDistinct rows
