-- The files of a commit by its rows; an id that is not that of a commit has none.
use Rattle.std.specs.Prelude.{List, [], map, Option, Some, None}
use Rattle.std.specs.FinMap as fin
use Rattle.eden_ids.specs.declared.id.Id.{Id}
use Rattle.eden_ids.specs.FileMaps.{FileMap, no_files}
use Rattle.eden_objects.specs.Objects.{Held}
use Rattle.eden_objects.specs.Commits.{Row, commit_map, content_of, tree_rows}
use Rattle.eden_objects.specs.Closed.{HasTree}

-- the files that a look-up of a commit gives; none if there is no such commit
abbrev pub files_of : Option FileMap → FileMap
files_of None = no_files
files_of (Some files) = files

-- the files of a commit; none if there is no such commit
abbrev pub commit_files : List Held → Id → FileMap
commit_files held commit = files_of (commit_map held commit)

-- a tree of the store, or `None`: the empty commit has no tree
abbrev pub IsTreeIn : List Held → Option Id → Type 0
IsTreeIn held None = Unit {0}
IsTreeIn held (Some tree) = HasTree held tree

-- its files, by their blobs and then by their bytes
abbrev pub rows_at : List Held → Option Id → List Row
rows_at held None = []
rows_at held (Some tree) = tree_rows held tree

abbrev pub files_at : List Held → Option Id → FileMap
files_at held tree = fin.from_entries (map (λ row. (row.0, content_of held row)) (rows_at held tree))
