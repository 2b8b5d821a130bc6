-- The files of a working copy that the commit below it does not hold, and the paths at
-- which the two differ.
use Rattle.std.specs.Prelude.{ℕ, not, List, map, filter, is_some}
use Rattle.std.specs.FinMap as fin
use Rattle.eden_globs.specs.Filters.{Patterns, admits}
use Rattle.eden_ids.specs.FileMaps.{FileMap, differ, file_at, listing}
use Rattle.eden_history.specs.declared.mark.Marked.{Marked}
use Rattle.eden_history.specs.Checkouts.{is_clean}
use Rattle.eden_history.specs.Marks.{mark_by}

-- the files of the working copy at the dirty paths
abbrev pub dirty_files : FileMap → FileMap → FileMap
dirty_files work root = fin.retain_keys work (λ p. not (is_clean work root p))

-- a path with what made it dirty: its file was created, removed or changed
abbrev pub dirty_mark : FileMap → FileMap → List ℕ → Marked
dirty_mark work root path = record { mark = mark_by (is_some (file_at root path)) (is_some (file_at work path)); path = path }

-- the dirty paths that a filter admits, in byte order, each with its mark
abbrev pub dirty_marks : FileMap → FileMap → Patterns → List Marked
dirty_marks work root patterns = map (dirty_mark work root) (filter (admits patterns) (listing (differ work root)))
