-- Files that are carried from below one path to below another, one after the other.
use Rattle.std.specs.Prelude.{ℕ, List, [], ◌∷◌, Option, Some, if◌then◌else◌}
use Rattle.std.specs.FinMap as fin
use Rattle.eden_ids.specs.FileMaps.{FileMap, file_at, put_option}
use Rattle.eden_ids.specs.Paths.{lies_below}
use Rattle.eden_overlay.specs.Carried.{carried}
use Rattle.eden_overlay.specs.Layers.{over}
use Rattle.eden_renames.specs.Renames.{seen_through}
use Rattle.eden_history.specs.DirRenames.{free_fault}
use Rattle.eden_history.specs.declared.change.ChangeFault.{ChangeFault}
use Rattle.eden_history.specs.declared.change.ChangeFault.TheVariants.{IntoItself}
use Rattle.eden_workcopy.specs.declared.work.WorkCopy.{WorkCopy}

-- the files after the one at a path was carried
abbrev pub one_carried : List ℕ → List ℕ → FileMap → List ℕ → FileMap
one_carried old new files path = put_option (fin.remove files path) (carried old new path) (file_at files path)

-- the files after those at some paths were carried
abbrev pub each_carried : List ℕ → List ℕ → FileMap → List (List ℕ) → FileMap
each_carried old new files [] = files
each_carried old new files (path ∷ paths) = each_carried old new (one_carried old new files path) paths

-- what a working copy holds over the files of a commit, as its renamed directories show them
abbrev pub held_over : FileMap → WorkCopy → FileMap
held_over files work = over (seen_through files work.renames) work.overlay

-- why a directory can't be put at a new path, as far as its own files have no say in it
abbrev pub way_fault : FileMap → List ℕ → List ℕ → Option ChangeFault
way_fault files old new = if lies_below new old then Some IntoItself else free_fault files new
