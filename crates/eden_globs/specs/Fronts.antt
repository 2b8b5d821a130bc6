-- The bytes before the names of a directory, when a walk goes on to a directory below it.
use Rattle.std.specs.Prelude.{◌≡◌, ℕ, false, true, List, [], ◌∷◌, ◌++◌, length, Option, Some, None}
use Rattle.eden_ids.specs.Paths.{lies_below}
use Rattle.eden_globs.specs.Filters.{Patterns, admits}

-- the directory of this name is entered, with the length that leads back; or nothing
-- below it is admitted, and nothing changes
abbrev pub Enters : Patterns → List ℕ → List ℕ → List ℕ → Option ℕ → Type 0
Enters filter name old new None = (new ≡ old) × ((path : List ℕ) → lies_below path (old ++ name) ≡ true → admits filter path ≡ false)
Enters filter name old new (Some long) = (new ≡ old ++ name ++ 47 ∷ []) × (long ≡ length old)
