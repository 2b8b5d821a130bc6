-- The files of a commit, from Git's format of trees and commits (`git cat-file` prints
-- both). The entry of a file gives its name, its mode's kind and its blob's payload; the
-- entry of a directory gives its name, a slash and each path of its child.
use Rattle.std.specs.Prelude.{ℕ, Bool, if◌then◌else◌, List, [], ◌∷◌, ◌++◌, map, filter, Option, Some, None}
use Rattle.std.specs.List.{flat_map}
use Rattle.std.specs.FinMap as fin
use Rattle.eden_ids.specs.declared.id.Id.{Id}
use Rattle.eden_ids.specs.declared.content.Kind.{Kind}
use Rattle.eden_ids.specs.declared.content.Content.{Content}
use Rattle.eden_ids.specs.FileMaps.{FileMap}
use Rattle.eden_git.specs.declared.object_type.ObjectType.TheVariants.{Commit}
use Rattle.eden_objects.specs.Objects.{Held, find, payload_of, zero_id}
use Rattle.eden_git.specs.ObjectTypes.{same_type}
use Rattle.eden_ids.specs.Sameness.{same_bytes, same_id}
use Rattle.eden_git.specs.Trees.{Entry}
use Rattle.eden_git.specs.Commits.{tree_named}
use Rattle.eden_objects.specs.Trees.{tree_fold}

-- a file of a commit: its path, its kind and its blob
abbrev pub Row : Type 0
Row = List ℕ × Kind × Id

abbrev pub under : List ℕ → Row → Row
under name row = (name ++ 47 ∷ row.0, row.1, row.2)

abbrev pub rows_of_kind : List ℕ → Option Kind → Id → List Row → List Row
rows_of_kind name None id below = map (under name) below
rows_of_kind name (Some kind) id below = (name, kind, id) ∷ []

abbrev pub entry_rows : (Id → List Row) → Entry → List Row
entry_rows rows e = rows_of_kind e.name e.kind e.id (rows e.id)

abbrev pub entries_rows : (Id → List Row) → List Entry → List Row
entries_rows rows es = flat_map (entry_rows rows) es

-- the files of a tree, in the order of its entries
abbrev pub tree_rows : List Held → Id → List Row
tree_rows held id = tree_fold [] entries_rows held id

-- the files of the tree that a commit names
abbrev pub rows_named : List Held → Option Id → Option (List Row)
rows_named held None = None
rows_named held (Some tree) = Some (tree_rows held tree)

abbrev pub rows_held : List Held → Option Held → Option (List Row)
rows_held held None = None
rows_held held (Some h) = if same_type h.object_type Commit then rows_named held (tree_named h.payload) else None

-- the files of a commit, in byte order of their paths; `None` if the id is not that of a
-- commit
abbrev pub commit_rows : List Held → Id → Option (List Row)
commit_rows held id = if same_id id zero_id then Some [] else rows_held held (find id held)

abbrev pub content_of : List Held → Row → Content
content_of held row = record { kind = row.1; bytes = payload_of (find row.2 held) }

abbrev pub map_of_rows : List Held → Option (List Row) → Option FileMap
map_of_rows held None = None
map_of_rows held (Some rows) = Some (fin.from_entries (map (λ row. (row.0, content_of held row)) rows))

-- the file map of a commit
abbrev pub commit_map : List Held → Id → Option FileMap
commit_map held id = map_of_rows held (commit_rows held id)

-- the row of a path
abbrev pub find_row : List ℕ → List Row → Option (Kind × Id)
find_row path [] = None
find_row path (row ∷ rows) = if same_bytes row.0 path then Some (row.1, row.2) else find_row path rows

-- the rows whose paths pass a test
abbrev pub rows_where : (List ℕ → Bool) → Option (List Row) → Option (List Row)
rows_where test None = None
rows_where test (Some rows) = Some (filter (λ row. test row.0) rows)

abbrev pub row_in : List ℕ → Option (List Row) → Option (Option (Kind × Id))
row_in path None = None
row_in path (Some rows) = Some (find_row path rows)
