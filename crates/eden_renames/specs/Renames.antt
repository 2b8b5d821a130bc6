-- Renamed directories: for some directories, which directory of a commit is seen there,
-- or that nothing is. A path is governed by the nearest of them above it; if there is
-- none above it, the commit's own file is seen.
use Rattle.std.specs.Prelude.{◌≡◌, ℕ, Bool, ◌&&◌, if◌then◌else◌, List, [], ◌∷◌, ◌++◌, map, Option, Some, None, is_some}
use Rattle.std.specs.Option.{is_none, option_or}
use Rattle.std.specs.declared.cmp.Ordering.{Ordering}
use Rattle.std.specs.Ordering.{nat_cmp}
use Rattle.std.specs.Cmp.Lexicographic.{slice_cmp}
use Rattle.std.specs.List.{list_any}
use Rattle.std.specs.FinMap as fin
use Rattle.eden_ids.specs.declared.content.Content.{Content}
use Rattle.eden_ids.specs.Paths.{IsPath, lies_below, path_fault}
use Rattle.eden_ids.specs.FileMaps.{FileMap, PathSet, file_at, path_set, paths, same_path, tabulate}
use Rattle.eden_overlay.specs.Carried.{breaks, carried}

-- byte order
abbrev pub by_bytes : List ℕ → List ℕ → Ordering
by_bytes = slice_cmp nat_cmp

-- some directories: the commit's directory that is seen there, or that nothing is
abbrev pub Renames : Type 0
Renames = fin.FinMap (slice_cmp nat_cmp) (Option (List ℕ))

-- a directory, and what is seen there
abbrev pub Entry : Type 0
Entry = List ℕ × Option (List ℕ)

-- among sorted entries, the last one above a path is the nearest
abbrev pub nearest : List Entry → List ℕ → Option Entry
nearest [] path = None
nearest (e ∷ es) path = option_or (nearest es path) (if lies_below path e.0 then Some e else None)

-- the commit's path that is seen at a path, if this entry is the nearest above it
abbrev pub source_by : Option Entry → List ℕ → Option (List ℕ)
source_by None path = Some path
source_by (Some (top, None)) path = None
source_by (Some (top, Some source)) path = Some (carried top source path)

-- the commit's path that is seen at a path, or that nothing is seen there
abbrev pub source_of : Renames → List ℕ → Option (List ℕ)
source_of renames path = source_by (nearest (fin.entries renames) path) path

-- the file there
abbrev pub file_from : FileMap → Option (List ℕ) → Option Content
file_from files None = None
file_from files (Some source) = file_at files source

-- the paths at which one entry shows files: those below its source, moved below its
-- directory
abbrev pub seen_by : List (List ℕ) → Entry → List (List ℕ)
seen_by ps (top, None) = []
seen_by ps (top, Some source) = map (carried source top) ps

-- a file is seen at its own path, or below a directory that has an entry
abbrev pub seen_paths : List (List ℕ) → List Entry → List (List ℕ)
seen_paths ps [] = ps
seen_paths ps (e ∷ es) = seen_by ps e ++ seen_paths ps es

-- the files of a commit as they are seen
unfoldable pub seen_through : FileMap → Renames → FileMap
seen_through files renames = tabulate (seen_paths (paths files) (fin.entries renames)) (λ path. file_from files (source_of renames path))

-- the commit's directory that is seen at a directory, by its own entry or by the nearest
-- one above
abbrev pub own_or : Option (Option (List ℕ)) → Option (List ℕ) → Option (List ℕ)
own_or None above = above
own_or (Some source) above = source

-- a commit has no file below an invalid path, so nothing is seen there
abbrev pub path_alone : Option (List ℕ) → Option (List ℕ)
path_alone None = None
path_alone (Some source) = if is_some (path_fault source) then None else Some source

abbrev pub source_dir : Renames → List ℕ → Option (List ℕ)
source_dir renames dir = own_or (fin.get renames dir) (path_alone (source_of renames dir))

-- the entry of a directory after one more was renamed: the entries at the new path and
-- below it are forgotten; at the new path is seen what was seen at the old one, and at
-- the old one nothing
abbrev pub moved_rule : Renames → List ℕ → List ℕ → List ℕ → Option (Option (List ℕ))
moved_rule renames old new dir =
    if same_path dir new then Some (source_dir renames old) else
    if lies_below dir new then fin.get renames (carried new old dir) else
    if same_path dir old then Some None else
    if lies_below dir old then None else fin.get renames dir

abbrev pub put_entry : Renames → List ℕ → Option (Option (List ℕ)) → Renames
put_entry renames dir None = fin.remove renames dir
put_entry renames dir (Some source) = fin.insert renames dir source

-- the entries that a rule gives these directories; others have none
unfoldable pub said_of : List (List ℕ) → (List ℕ → Option (Option (List ℕ))) → Renames
said_of [] rule = fin.empty
said_of (dir ∷ dirs) rule = put_entry (said_of dirs rule) dir (rule dir)

-- the renamed directories after one more was renamed
unfoldable pub dir_moved : Renames → List ℕ → List ℕ → Renames
dir_moved renames old new = said_of (new ∷ old ∷ (fin.keys renames ++ map (carried old new) (fin.keys renames))) (moved_rule renames old new)

-- one of the directories that have an entry would be at an invalid path
abbrev pub breaks_an_entry : Renames → List ℕ → List ℕ → Bool
breaks_an_entry renames old new = list_any (λ dir. lies_below dir old && breaks old new dir) (fin.keys renames)

-- a directory above the path has an entry; at any other path the commit's own file is
-- seen
abbrev pub is_governed : Renames → List ℕ → Bool
is_governed renames path = list_any (λ top. lies_below path top) (fin.keys renames)

abbrev pub is_path : List ℕ → Bool
is_path bytes = is_none (path_fault bytes)

-- the files at valid paths
abbrev pub at_paths : FileMap → FileMap
at_paths files = fin.retain_keys files is_path

-- the paths, of the commit's files and of those that are seen, that an entry governs; at
-- each other path the commit's own file is seen
unfoldable pub unsettled : FileMap → Renames → PathSet
unsettled files renames = fin.retain_keys (path_set (paths files ++ paths (seen_through files renames))) (λ path. is_governed renames path && is_path path)

-- each file is at a valid path, as those of a commit are
abbrev pub ArePaths : FileMap → Type 0
ArePaths files = (path : List ℕ) (file : Content) → file_at files path ≡ Some file → IsPath path
