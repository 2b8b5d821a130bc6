-- The tree of a commit, as it is looked up.
use Rattle.std.specs.Prelude.{List, Option, Some, None, Result, Ok, Err}
use Rattle.eden_ids.specs.declared.id.Id.{Id}
use Rattle.eden_objects.specs.declared.fault.NoCommit.{NoCommit}
use Rattle.eden_objects.specs.Objects.{Held}
use Rattle.eden_objects.specs.Commits.{Row}
use Rattle.eden_objects.specs.Files.{IsTreeIn, rows_at}

-- the rows of a commit by its tree; the empty commit has none
abbrev pub rows_of_tree : List Held → Result (Option Id) NoCommit → Option (List Row)
rows_of_tree held (Err fault) = None
rows_of_tree held (Ok tree) = Some (rows_at held tree)

abbrev pub IsTreeOf : List Held → Result (Option Id) NoCommit → Type 0
IsTreeOf held (Ok tree) = IsTreeIn held tree
IsTreeOf held (Err fault) = Unit {0}
