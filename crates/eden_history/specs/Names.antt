-- What changed since a number of the present generation, each path by its name: also below a
-- directory that was renamed, where no event names a path.
use Rattle.std.specs.Prelude.{ℕ, if◌then◌else◌, List, ◌++◌, map, is_some}
use Rattle.std.specs.FinMap as fin
use Rattle.eden_ids.specs.FileMaps.{PathSet, file_at, listing, path_set, paths, union}
use Rattle.eden_history.specs.declared.mark.Mark.{Mark}
use Rattle.eden_history.specs.declared.mark.Marked.{Marked}
use Rattle.eden_history.specs.Worlds.{WorldState, now}
use Rattle.eden_history.specs.Rows.{row_since}
use Rattle.eden_history.specs.Said.{ends_at, paths_said}
use Rattle.eden_history.specs.Changes.{below_any, prefixes_since, said_since}
use Rattle.eden_history.specs.Marks.{mark_by, mark_told}

-- the paths below a directory that files were moved from or to, if a file was there then or is
-- there now
abbrev pub moved_since : WorldState → ℕ → PathSet
moved_since world since =
    fin.retain_keys (path_set (paths (row_since world since).files ++ paths (now world).files)) (below_any (prefixes_since world since))

-- the paths that the events since name, and these
abbrev pub names_since : WorldState → ℕ → PathSet
names_since world since = union (path_set (paths_said (said_since world since))) (moved_since world since)

-- below such a directory, whether a file was there then and is there now; at any other path,
-- what the events say
abbrev pub name_mark : WorldState → ℕ → List ℕ → Mark
name_mark world since path =
    if below_any (prefixes_since world since) path
    then mark_by (is_some (file_at (row_since world since).files path)) (is_some (file_at (now world).files path))
    else mark_told (ends_at path (said_since world since))

-- each of the paths, ascending, with its mark
abbrev pub named_each : WorldState → ℕ → List Marked
named_each world since = map (λ path. record { mark = name_mark world since path; path = path }) (listing (names_since world since))
