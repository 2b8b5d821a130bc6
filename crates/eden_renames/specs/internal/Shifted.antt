-- Renamed directories while one more is renamed, and before anything is said of the old path and
-- the new one.
use Rattle.std.specs.Prelude.{◌≡◌, ℕ, T, if◌then◌else◌, List, [], ◌∷◌, ◌++◌, filter, map, take, drop, Option, None}
use Rattle.std.specs.FinMap as fin
use Rattle.std.specs.FinMap.{is_sorted}
use Rattle.eden_ids.specs.Paths.{lies_below}
use Rattle.eden_overlay.specs.Carried.{carried}
use Rattle.eden_overlay.specs.Places.{place}
use Rattle.eden_renames.specs.Renames.{Entry, Renames, by_bytes, source_dir}

-- what was said below the old path is said below the new one, and what was said there before is
-- forgotten
abbrev pub shifted : (List ℕ → Option (Option (List ℕ))) → List ℕ → List ℕ → List ℕ → Option (Option (List ℕ))
shifted said old new dir = if lies_below dir new then said (carried new old dir) else if lies_below dir old then None else said dir

abbrev pub IsShifted : (List ℕ → Option (Option (List ℕ))) → List ℕ → List ℕ → Renames → Type 0
IsShifted said old new renames = (dir : List ℕ) → fin.get renames dir ≡ shifted said old new dir

-- an entry below the old path, as it is below the new one
abbrev pub shifted_entry : List ℕ → List ℕ → Entry → Entry
shifted_entry old new e = (carried old new e.0, e.1)

-- those that come to be below the new path
abbrev pub arriving : List Entry → List ℕ → List ℕ → List Entry
arriving es old new = map (shifted_entry old new) (filter (λ e. lies_below e.0 old) es)

-- entries put in, one after the other, at the place of the first of them
abbrev pub IsPutIn : List Entry → List Entry → List Entry → Type 0
IsPutIn [] es rs = rs ≡ es
IsPutIn (m ∷ ms) es rs = rs ≡ take (place m.0 es) es ++ ((m ∷ ms) ++ drop (place m.0 es) es)

-- what a rename that is ready has
pub record IsReady (es more : List Entry) (source : Option (List ℕ)) (old new : List ℕ) : Type 0 where
  pub sorted : T (is_sorted by_bytes es)
  pub arriving_is : more ≡ arriving es old new
  pub source_is : source ≡ source_dir (fin.from_sorted es) old
