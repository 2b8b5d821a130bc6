-- The commit below a working copy.
use Rattle.std.specs.Prelude.{List}
use Rattle.eden_ids.specs.FileMaps.{FileMap}
use Rattle.eden_objects.specs.Objects.{Held}
use Rattle.eden_objects.specs.Files.{commit_files}
use Rattle.eden_workcopy.specs.declared.work.WorkCopy.{WorkCopy}

-- the files of the commit below a working copy
abbrev pub root_files : List Held → WorkCopy → FileMap
root_files held work = commit_files held work.root
