-- What a working copy means over a store: its overlay over the files of its root's commit, as
-- renamed directories show them.
use Rattle.std.specs.Prelude.{ℕ, Bool, List, IsSome}
use Rattle.std.specs.FinMap as fin
use Rattle.eden_ids.specs.FileMaps.{FileMap, IsFileMap, PathSet, path_set}
use Rattle.eden_ids.specs.Texts.{AreTexts}
use Rattle.eden_objects.specs.Objects.{Held}
use Rattle.eden_objects.specs.Commits.{commit_map}
use Rattle.eden_objects.specs.Files.{commit_files}
use Rattle.eden_renames.specs.Renames.{seen_through}
use Rattle.eden_overlay.specs.Layers.{marks, over}
use Rattle.eden_workcopy.specs.declared.work.WorkCopy.{WorkCopy}

-- the files below the overlay: those of the root's commit, as the renamed directories show them
abbrev pub base_of : List Held → WorkCopy → FileMap
base_of held work = seen_through (commit_files held work.root) work.renames

-- the files that a working copy holds
abbrev pub means : List Held → WorkCopy → FileMap
means held work = over (base_of held work) work.overlay

-- the store has the root's commit, and there the working copy holds a file map. Its paths and files
-- keep the limits, and so do those that the overlay hides
pub record FitsIn (held : List Held) (work : WorkCopy) : Type 0 where
  pub root : IsSome (commit_map held work.root)
  pub files : IsFileMap (means held work)
  pub texts : AreTexts (means held work)
  pub below : AreTexts (base_of held work)

-- the touched paths, each once and ascending, with whether a file is there now
abbrev pub touched_of : WorkCopy → List (List ℕ × Bool)
touched_of work = marks (fin.entries work.overlay)

-- the set of these paths
abbrev pub touched_set : WorkCopy → PathSet
touched_set work = path_set (fin.keys work.overlay)
