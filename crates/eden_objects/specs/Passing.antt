-- What is passed over: in a directory of some size, and of files that are listed as if
-- their directory were at another path.
use Rattle.std.specs.Prelude.{◌≡◌, ℕ, ◌≤◌, Bool, true, false, not, ◌&&◌, IsSome, List, ◌++◌, drop, length}
use Rattle.std.specs.List.{list_all}
use Rattle.eden_globs.specs.Filters.{Patterns, admits}
use Rattle.eden_ids.specs.FileMaps.{FileMap, file_at}
use Rattle.eden_ids.specs.Paths.{IsPath, components, is_component, lies_below}
use Rattle.eden_objects.specs.declared.size.Size.{Size}

-- the paths, from a directory of this size on, at which it may have a file
abbrev pub IsWithin : Size → List ℕ → Type 0
IsWithin size rest = (length rest ≤ size.reach) × (list_all is_component (components rest) ≡ true) × (length (components rest) ≤ size.depth)

-- a path below one directory, as if that were at another path
abbrev pub told : List ℕ → List ℕ → List ℕ → List ℕ
told top seen path = seen ++ drop (length top) path

-- what a list shows: what a filter admits and is not passed over
abbrev pub is_shown : (List ℕ → Bool) → Patterns → List ℕ → Bool
is_shown passes wanted path = not (passes path) && admits wanted path

-- each file below the directory that is not passed over has a valid path there
abbrev pub TellsPaths : (List ℕ → Bool) → List ℕ → List ℕ → FileMap → Type 0
TellsPaths passes top seen files =
    (path : List ℕ) → lies_below path top ≡ true → IsSome (file_at files path) → passes (told top seen path) ≡ false → IsPath (told top seen path)
