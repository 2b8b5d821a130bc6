-- What holds in every closed store.
use Rattle.std.specs.Prelude.{◌≡◌, ℕ, true, List, map, Some, None, Ok}
use Rattle.std.specs.Ordering.{nat_cmp}
use Rattle.std.specs.Cmp.Lexicographic.{slice_cmp}
use Rattle.std.specs.List.{AllByRecursion}
use Rattle.std.specs.List.Sorted.{IsStrictlySortedBy}
use Rattle.eden_ids.specs.declared.id.Id.{Id}
use Rattle.eden_ids.specs.declared.content.Kind.{Kind}
use Rattle.eden_ids.specs.FileMaps.{FileMap, file_at, paths, IsFileMap}
use Rattle.eden_ids.specs.Paths.{path_fault}
use Rattle.eden_ids.specs.Texts.{AreBytes, AreTexts}
use Rattle.eden_git.specs.declared.object_type.ObjectType.TheVariants.{Blob, Tree}
use Rattle.eden_objects.specs.declared.import.Object.{Object}
use Rattle.eden_objects.specs.Objects.{Held, find}
use Rattle.eden_objects.specs.Imports.{GrowsOnto, import_outcome, put_of}
use Rattle.eden_git.specs.Trees.{Entry, cut, entries_of, is_name}
use Rattle.eden_objects.specs.Commits.{Row, tree_rows, entries_rows, find_row, commit_rows, commit_map}
use Rattle.eden_git.specs.Directories.{file_named, dir_named}
use Rattle.eden_objects.specs.Walks.{then_find, content_found}
use Rattle.eden_objects.specs.Closed.{AllNamed, IsHeld, HasTree, IsClosed, NamesDiffer}
use Rattle.eden_objects.specs.Small.{AreSmall}

-- the files of a tree are those of its entries
abbrev pub TreesUnfold : Type 0
TreesUnfold = (held : List Held) → IsClosed held → (id : Id) (h : Held) → find id held ≡ Some h → h.object_type ≡ Tree
    → tree_rows held id ≡ entries_rows (tree_rows held) (entries_of h.payload)

-- a path with no slash is that of a file among the entries
abbrev pub NamesFound : Type 0
NamesFound = (rows : Id → List Row) (p : List ℕ) (es : List Entry) → cut 47 p ≡ None → find_row p (entries_rows rows es) ≡ file_named p es

-- a path with a slash is that of a file below the directory that it begins with
abbrev pub DirectoriesFound : Type 0
DirectoriesFound = (rows : Id → List Row) (p c r : List ℕ) (es : List Entry) → cut 47 p ≡ Some (c, r) → AllByRecursion (λ e. is_name e.name ≡ true) es → NamesDiffer es
    → find_row p (entries_rows rows es) ≡ then_find rows r (dir_named c es)

-- the files of a tree are in byte order of their paths
abbrev pub PathsRise : Type 0
PathsRise = (held : List Held) → IsClosed held → (id : Id) → HasTree held id → IsStrictlySortedBy (slice_cmp nat_cmp) (map (λ row. row.0) (tree_rows held id))

-- each path of a tree is valid
abbrev pub PathsAreLegal : Type 0
PathsAreLegal = (held : List Held) → IsClosed held → (id : Id) → HasTree held id → AllByRecursion (λ row. path_fault row.0 ≡ None) (tree_rows held id)

-- The rows of a commit and its file map. Each law holds for every closed store, and so
-- for every store that there is.

-- the paths are in byte order, so each is that of one row
abbrev pub RowsRise : Type 0
RowsRise = (held : List Held) → IsClosed held → (commit : Id) (rows : List Row) → commit_rows held commit ≡ Some rows
    → IsStrictlySortedBy (slice_cmp nat_cmp) (map (λ row. row.0) rows)

-- each path is valid
abbrev pub RowsAreLegal : Type 0
RowsAreLegal = (held : List Held) → IsClosed held → (commit : Id) (rows : List Row) → commit_rows held commit ≡ Some rows
    → AllByRecursion (λ row. path_fault row.0 ≡ None) rows

-- each file is a blob that is held
abbrev pub RowsNameBlobs : Type 0
RowsNameBlobs = (held : List Held) → IsClosed held → (commit : Id) (rows : List Row) → commit_rows held commit ≡ Some rows
    → AllByRecursion (λ row. IsHeld held Blob row.2) rows

-- no two files clash
abbrev pub CommitsAreFileMaps : Type 0
CommitsAreFileMaps = (held : List Held) → IsClosed held → (commit : Id) (files : FileMap) → commit_map held commit ≡ Some files → IsFileMap files

-- the map has the paths of the rows
abbrev pub CommitsListTheirRows : Type 0
CommitsListTheirRows = (held : List Held) → IsClosed held → (commit : Id) (rows : List Row) (files : FileMap) → commit_rows held commit ≡ Some rows → commit_map held commit ≡ Some files
    → paths files ≡ map (λ row. row.0) rows

-- at each path the map has the file of the row
abbrev pub RowsAreFiles : Type 0
RowsAreFiles = (held : List Held) (commit : Id) (rows : List Row) (files : FileMap) → commit_rows held commit ≡ Some rows → commit_map held commit ≡ Some files
    → (path : List ℕ) → file_at files path ≡ content_found held (find_row path rows)

-- if each payload is within its limit, so are the files of a commit
abbrev pub CommitsHoldTexts : Type 0
CommitsHoldTexts = (held : List Held) → IsClosed held → AreSmall held → (commit : Id) (files : FileMap) → commit_map held commit ≡ Some files → AreTexts files

-- If a naming gave each id, two objects of one type with the same payload are one.

abbrev pub EqualObjectsAreOne : Type 0
EqualObjectsAreOne = (name : List ℕ → List ℕ → Id) (held : List Held) → AllNamed name held → (i j : Id) (h k : Held) → find i held ≡ Some h → find j held ≡ Some k
    → h.object_type ≡ k.object_type → h.payload ≡ k.payload → i ≡ j

-- two files of one kind hold the same bytes exactly if they have the same blob
abbrev pub EqualFilesHaveOneBlob : Type 0
EqualFilesHaveOneBlob = (name : List ℕ → List ℕ → Id) (held : List Held) → AllNamed name held → (kind : Kind) (i j : Id) → IsHeld held Blob i → IsHeld held Blob j
    → content_found held (Some (kind, i)) ≡ content_found held (Some (kind, j)) → i ≡ j

-- What a closed store has, each closed store with all of its objects has too: one that
-- grew from it, or a copy of it.

abbrev pub HasAll : List Held → List Held → Type 0
HasAll held other = (id : Id) (h : Held) → find id held ≡ Some h → find id other ≡ Some h

abbrev pub TreesStay : Type 0
TreesStay = (held other : List Held) → IsClosed held → IsClosed other → HasAll held other → (id : Id) → HasTree held id → tree_rows other id ≡ tree_rows held id

abbrev pub CommitRowsStay : Type 0
CommitRowsStay = (held other : List Held) → IsClosed held → IsClosed other → HasAll held other → (commit : Id) (rows : List Row) → commit_rows held commit ≡ Some rows
    → commit_rows other commit ≡ Some rows

abbrev pub CommitMapsStay : Type 0
CommitMapsStay = (held other : List Held) → IsClosed held → IsClosed other → HasAll held other → (commit : Id) (files : FileMap) → commit_map held commit ≡ Some files
    → commit_map other commit ≡ Some files

-- An import leaves a store that a naming names, and that has everything that was there.
abbrev pub ImportsKeep : Type 0
ImportsKeep = (name : List ℕ → List ℕ → Id) (objects : List Object) (held new : List Held) → IsClosed held → AllNamed name held
    → import_outcome name objects held ≡ Ok new → IsClosed new × AllNamed name new × GrowsOnto held new × HasAll held new

-- So does a put of one object.
abbrev pub PutsKeep : Type 0
PutsKeep = (name : List ℕ → List ℕ → Id) (object : Object) (held new : List Held) (id : Id) → IsClosed held → AllNamed name held
    → put_of name object held ≡ Ok (id, new) → IsClosed new × AllNamed name new × GrowsOnto held new × HasAll held new

-- If the payloads that an import puts are bytes, each stays within its limit.
abbrev pub ImportsStaySmall : Type 0
ImportsStaySmall = (name : List ℕ → List ℕ → Id) (objects : List Object) (held new : List Held) → AreSmall held
    → AllByRecursion (λ object. AreBytes object.payload) objects → import_outcome name objects held ≡ Ok new → AreSmall new
