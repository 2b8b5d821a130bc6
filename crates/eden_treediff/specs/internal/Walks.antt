-- A walk over two trees of a store, either of which may be missing.
use Rattle.std.specs.Prelude.{◌≡◌, ℕ, Bool, true, false, List, [], ◌++◌, map, filter, Option, Some, None, Result, Ok, Err}
use Rattle.std.specs.Borrow.{Bor}
use Rattle.eden_ids.specs.declared.id.Id.{Id}
use Rattle.eden_objects.specs.Objects.{Held, find, payload_of}
use Rattle.eden_ids.specs.Sameness.{same_id}
use Rattle.eden_git.specs.Trees.{entries_of, Entry}
use Rattle.eden_objects.specs.Trees.{tree_depth}
use Rattle.eden_objects.specs.Commits.{Row, commit_rows, tree_rows}
use Rattle.eden_objects.specs.Closed.{HasTree}
use Rattle.eden_objects.specs.declared.fault.NoCommit.{NoCommit}
use Rattle.eden_treediff.specs.internal.Pairs.{Directory}

-- a side is a tree of the store, or is missing
abbrev pub IsSide : List Held → Option Id → Type 0
IsSide held None = Unit {0}
IsSide held (Some id) = HasTree held id

abbrev pub side_bytes : List Held → Option Id → List ℕ
side_bytes held None = []
side_bytes held (Some id) = payload_of (find id held)

abbrev pub side_entries : List Held → Option Id → List Entry
side_entries held side = entries_of (side_bytes held side)

abbrev pub rows_of_side : (Id → List Row) → Option Id → List Row
rows_of_side rows None = []
rows_of_side rows (Some id) = rows id

abbrev pub side_rows : List Held → Option Id → List Row
side_rows held side = rows_of_side (tree_rows held) side

abbrev pub side_depth : List Held → Option Id → ℕ
side_depth held None = 0
side_depth held (Some id) = tree_depth held id

abbrev pub is_one_tree : Option Id → Option Id → Bool
is_one_tree None None = true
is_one_tree (Some a) (Some b) = same_id a b
is_one_tree _ _ = false

-- the paths after the bytes that they begin with
abbrev pub behind : List ℕ → List (List ℕ) → List (List ℕ)
behind front ps = map (λ p. front ++ p) ps

-- those of them that are wanted
abbrev pub wanted_behind : (List ℕ → Bool) → List ℕ → List (List ℕ) → List (List ℕ)
wanted_behind test front ps = filter test (behind front ps)

abbrev pub directory_read : Option (Bor (List ℕ) × Option Id × Option Id) → Option Directory
directory_read None = None
directory_read (Some d) = Some (d.0.now, d.1, d.2)

-- the side of a commit, if it is one
abbrev pub IsSideOf : List Held → Id → Result (Option Id) NoCommit → Type 0
IsSideOf held commit (Ok side) = IsSide held side × (commit_rows held commit ≡ Some (side_rows held side))
IsSideOf held commit (Err fault) = commit_rows held commit ≡ None
