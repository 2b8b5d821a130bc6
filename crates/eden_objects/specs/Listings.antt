-- What a list of a commit's files gives.
use Rattle.std.specs.Prelude.{◌≡◌, ℕ, List, ◌++◌, Option, Some, None, Result, Ok, Err}
use Rattle.std.specs.Global.{Vec}
use Rattle.std.specs.List.{AllByRecursion}
use Rattle.eden_ids.specs.Paths.{IsPath}
use Rattle.eden_objects.specs.declared.fault.CommitFault.{CommitFault}
use Rattle.eden_objects.specs.declared.fault.CommitFault.TheVariants.{NoCommit, NoMemory}
use Rattle.eden_objects.specs.Commits.{Row}

-- each row's path after these bytes is a valid path
abbrev pub ArePaths : List ℕ → List Row → Type 0
ArePaths front rows = AllByRecursion (λ row. IsPath (front ++ row.0)) rows

-- a list gave its rows, or said why there are none
abbrev pub Lists : Result (Vec Row) CommitFault → Option (List Row) → Type 0
Lists (Ok rows) answer = answer ≡ Some rows.items
Lists (Err NoCommit) answer = answer ≡ None
Lists (Err NoMemory) answer = Unit {0}
