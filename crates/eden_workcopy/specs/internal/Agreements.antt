-- File maps that agree with another one at some paths.
use Rattle.std.specs.Prelude.{◌≡◌, ℕ, false, List, [], ◌∷◌, Option, None, Some, IsSome, is_some, if◌then◌else◌}
use Rattle.std.specs.List.{AllByRecursion}
use Rattle.std.specs.FinMap as fin
use Rattle.eden_ids.specs.declared.content.Content.{Content}
use Rattle.eden_ids.specs.FileMaps.{FileMap, file_at, same_file}
use Rattle.eden_overlay.specs.Layers.{Layer, over}

-- the file at a path is that of the wanted map
abbrev pub Agrees : FileMap → FileMap → List ℕ → Type 0
Agrees wanted files path = file_at files path ≡ file_at wanted path

abbrev pub AllAgree : FileMap → FileMap → List (List ℕ) → Type 0
AllAgree wanted files ps = AllByRecursion (Agrees wanted files) ps

-- the second map agrees wherever the first one does
abbrev pub IsNearer : FileMap → FileMap → FileMap → Type 0
IsNearer wanted before after = (p : List ℕ) → Agrees wanted before p → Agrees wanted after p

-- an overlay speaks of those paths alone at which the wanted map differs from what lies below
abbrev pub IsLean : FileMap → FileMap → Layer → Type 0
IsLean wanted base layer = (p : List ℕ) → IsSome (fin.get layer p) → same_file (file_at wanted p) (file_at base p) ≡ false

-- a layer over another commit that agrees at these paths, and still where that commit agrees, and
-- says no more than it must
pub record IsKept (wanted base : FileMap) (next : Layer) (ps : List (List ℕ)) : Type 0 where
  pub here : AllAgree wanted (over base next) ps
  pub there : IsNearer wanted base (over base next)
  pub lean : IsLean wanted base next

-- the layer with a touched path's file, unless that is seen already
abbrev pub kept_entry : FileMap → Layer → List ℕ → Option Content → Layer
kept_entry base next path file = if same_file file (file_at (over base next) path) then next else fin.insert next path file

-- the layer with the old commit's file at a path, unless it was touched
abbrev pub kept_below : FileMap → Layer → Layer → List ℕ → Layer
kept_below root touched next path = if is_some (fin.get touched path) then next else fin.insert next path (file_at root path)

-- and at each of some paths
abbrev pub kept_each : FileMap → Layer → Layer → List (List ℕ) → Layer
kept_each root touched next [] = next
kept_each root touched next (path ∷ paths) = kept_each root touched (kept_below root touched next path) paths

-- the layer that is laid over a commit: another one, or the one that is there
abbrev pub flat_or : Option Layer → Layer → Layer
flat_or None layer = layer
flat_or (Some flat) layer = flat
