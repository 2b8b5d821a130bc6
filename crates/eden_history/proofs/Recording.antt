-- What a journal records of a change: its touches, or its two directories.
use Rattle.std.proofs.Common.{◌≡◌, ℕ, true, List, [], map, refl}
use Rattle.eden_journal.specs.declared.file_touch.FileTouch.{FileTouch}
use Rattle.eden_journal.specs.FilesChanged.{prefixes_of, touches_of as touched}
use Rattle.eden_history.specs.declared.change.Change.{Change}
use Rattle.eden_history.specs.declared.change.Change.TheVariants.{RenameDir}
use Rattle.eden_history.specs.Named.{changed_paths, moved_prefixes}
use Rattle.eden_history.specs.Recorded.{files_by, moves_root}

-- the touches are those at the paths that the change changes: of the rename of a directory there are none
pub touches-by : (change : Change) (at : List ℕ → FileTouch) → touched (files_by change (map at (changed_paths change))) ≡ map at (changed_paths change)
touches-by (RenameDir old new) at = refl
touches-by change at = refl

pub prefixes-by : (change : Change) (touches : List FileTouch) → prefixes_of (files_by change touches) ≡ moved_prefixes change
prefixes-by (RenameDir old new) touches = refl
prefixes-by change touches = refl

-- a change of the root moves no directory
pub root-prefixes : (change : Change) → moves_root change ≡ true → moved_prefixes change ≡ []
root-prefixes (RenameDir old new) e = cc
root-prefixes change e = refl
