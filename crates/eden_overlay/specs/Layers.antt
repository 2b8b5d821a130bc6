-- An overlay: some paths, each with the file that is there, or with none. Over a file map it shows
-- another one.
use Rattle.std.specs.Prelude.{◌≡◌, ℕ, Bool, if◌then◌else◌, List, ◌++◌, map, Option, Some, None, is_some}
use Rattle.std.specs.declared.cmp.Ordering.{Ordering}
use Rattle.std.specs.Ordering.{nat_cmp}
use Rattle.std.specs.Cmp.Lexicographic.{slice_cmp}
use Rattle.std.specs.FinMap as fin
use Rattle.eden_ids.specs.declared.content.Content.{Content}
use Rattle.eden_ids.specs.FileMaps.{FileMap, file_at, paths, tabulate}
use Rattle.eden_ids.specs.Paths.{lies_below}
use Rattle.eden_overlay.specs.Carried.{carried}

-- some paths: the file there, or that the path is absent
abbrev pub Layer : Type 0
Layer = fin.FinMap (slice_cmp nat_cmp) (Option Content)

abbrev pub or_below : Option (Option Content) → Option Content → Option Content
or_below None below = below
or_below (Some file) below = file

-- at a path of the overlay what the overlay says, and elsewhere what is below it
abbrev pub over_rule : FileMap → Layer → List ℕ → Option Content
over_rule base layer path = or_below (fin.get layer path) (file_at base path)

-- the files that are seen of a file map with an overlay over it
unfoldable pub over : FileMap → Layer → FileMap
over base layer = tabulate (paths base ++ fin.keys layer) (over_rule base layer)

-- byte order
abbrev pub by_bytes : List ℕ → List ℕ → Ordering
by_bytes = slice_cmp nat_cmp

abbrev pub Entry : Type 0
Entry = List ℕ × Option Content

-- a touched path, and whether a file is there
abbrev pub Mark : Type 0
Mark = List ℕ × Bool

-- the paths of entries, each with whether a file is there
abbrev pub marks : List Entry → List Mark
marks es = map (λ e. (e.0, is_some e.1)) es

-- these paths alone
abbrev pub marked : List Mark → List (List ℕ)
marked ms = map (λ m. m.0) ms

-- what an overlay says of a path after what it said below one directory was carried to another:
-- below the new one what it said of the same place below the old one, nothing below the old one,
-- and of any other path the same
abbrev pub carried_entry : Layer → List ℕ → List ℕ → List ℕ → Option (Option Content)
carried_entry layer old new path =
    if lies_below path new then fin.get layer (carried new old path) else
    if lies_below path old then None else fin.get layer path

abbrev pub IsCarried : Layer → List ℕ → List ℕ → Layer → Type 0
IsCarried layer old new next = (path : List ℕ) → fin.get next path ≡ carried_entry layer old new path
