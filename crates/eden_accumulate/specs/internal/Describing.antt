-- Files without their bytes, looked up one path after another.
use Rattle.std.specs.Prelude.{◌≡◌, ℕ, ◌≤◌, List, [], ◌∷◌, length, Option, Some, None}
use Rattle.std.specs.FinMap as fin
use Rattle.std.specs.Option.{option_map}
use Rattle.eden_ids.specs.declared.content.Content.{Content}
use Rattle.eden_ids.specs.FileMaps.{FileMap, file_at}
use Rattle.eden_objects.specs.declared.stat.Stat.{Stat}
use Rattle.eden_objects.specs.Stats.{stat_of}
use Rattle.eden_overlay.specs.Layers.{Layer}
use Rattle.eden_history.specs.declared.described.Described.{Described}
use Rattle.eden_history.specs.Worlds.{Namer}

-- a path with the file there, if there is one
abbrev pub with_path : List ℕ → Option Stat → List Described
with_path path None = []
with_path path (Some stat) = record { path = path; stat = stat } ∷ []

-- what a look-up of a path adds
abbrev pub looked_up : Namer → FileMap → List ℕ → List Described
looked_up name files path = with_path path (option_map (stat_of name) (file_at files path))

-- each file of an overlay is within the limit
abbrev pub AreWithin : Layer → Type 0
AreWithin layer = (path : List ℕ) (file : Content) → fin.get layer path ≡ Some (Some file) → length file.bytes ≤ 8388608
