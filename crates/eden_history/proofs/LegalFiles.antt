-- No change makes two paths clash.
use Rattle.std.proofs.Common.{◌≡◌, ℕ, List, [], ◌∷◌, Option, Some, None, refl, sym, subst, ◌∙◌, arith}
use Rattle.std.specs.Prelude.{IsSome}
use Rattle.eden_ids.specs.declared.id.Id.{Id}
use Rattle.eden_ids.specs.FileMaps.{FileMap, IsFileMap}
use Rattle.eden_ids.proofs.FileMapLemmas.{IsFileMap-none, IsFileMap-remove}
use Rattle.eden_objects.specs.Objects.{Held}
use Rattle.eden_objects.specs.Closed.{AllNamed, IsClosed}
use Rattle.eden_objects.specs.Commits.{commit_map}
use Rattle.eden_objects.specs.Files.{files_of}
use Rattle.eden_objects.proofs.CommitLaws.{file_maps}
use Rattle.eden_history.specs.declared.change.Change.{Change}
use Rattle.eden_history.specs.declared.change.Change.TheVariants.{Write, Remove, Rename, RenameDir, Checkout}
use Rattle.eden_history.specs.Worlds.{Row, Event, Commits, WorldState, commits_of, last_row, now, opened}
use Rattle.eden_history.specs.Outcome.{change_fault, next_files, next_row, outcome, refusal}
use Rattle.eden_history.specs.Outcome.Outcome.{Next}
use Rattle.eden_history.specs.Legal.{AreMade, IsLegal, IsWorld}
use Rattle.eden_history.proofs.CheckoutLaws.{checked_out_no_clash}
use Rattle.eden_history.proofs.DirRenameLaws.{rename_dir_fits}
use Rattle.eden_history.proofs.RenameLaws.{first-none, rename_fits, write_fits}
use Rattle.eden_history.proofs.Steps.{is_made}

-- each commit that is there holds a file map
abbrev pub AreFileMaps : Commits → Type 0
AreFileMaps commits = (id : Id) (files : FileMap) → commits id ≡ Some files → IsFileMap files

-- what holds of each commit's files, and of none, holds of the files of any id
pub files_hold : (Holds : FileMap → Type 0) (commits : Commits) → Holds (files_of None) → ((id : Id) (files : FileMap) → commits id ≡ Some files → Holds files)
    → (id : Id) → Holds (files_of (commits id))
files_hold Holds commits none each id = by (commits id) refl
  where
    by : (found : Option FileMap) → commits id ≡ found → Holds (files_of found)
    by None e = none
    by (Some files) e = each id files e

held_fits : (commits : Commits) → AreFileMaps commits → (id : Id) → IsFileMap (files_of (commits id))
held_fits commits fits = files_hold IsFileMap commits IsFileMap-none fits

next_fits : (commits : Commits) (row : Row) (change : Change) → AreFileMaps commits → change_fault commits row change ≡ None → IsFileMap row.files → IsFileMap (next_files commits row change)
unfolding next_files
next_fits commits row (Write path kind bytes) maps e fits = write_fits row.files path bytes _ fits e
next_fits commits row (Remove path) maps e fits = IsFileMap-remove row.files path fits
next_fits commits row (Rename old new) maps e fits = rename_fits row.files old new fits e
next_fits commits row (RenameDir old new) maps e fits = rename_dir_fits row.files old new fits e
next_fits commits row (Checkout commit mode) maps e fits =
    checked_out_no_clash mode row.files (files_of (commits row.root)) (files_of (commits commit)) fits (held_fits commits maps commit)
next_fits commits row change maps e fits = fits

pub allowed_files : (commits : Commits) (row : Row) (change : Change) → refusal commits row change ≡ None → change_fault commits row change ≡ None
unfolding refusal
allowed_files commits row change e = (first-none (change_fault commits row change) _ e).0

pub next_row_files : (commits : Commits) (row : Row) (change : Change) → (next_row commits row change).files ≡ next_files commits row change
unfolding next_row
next_row_files commits row change = refl

pub made_fits : (commits : Commits) (opening : Row) (past : List Event) → AreFileMaps commits → IsFileMap opening.files → AreMade commits opening past → IsFileMap (last_row opening past).files
made_fits commits opening [] maps fits made = fits
made_fits commits opening (event ∷ past) maps fits made =
    let one = is_made commits (last_row opening past) event made.0 in
    let parts = one.made in
    subst IsFileMap (sym ((λ i. (parts i).row.files) ∙ next_row_files commits (last_row opening past) event.change))
    (next_fits commits (last_row opening past) event.change maps (allowed_files commits (last_row opening past) event.change one.allowed)
    (made_fits commits opening past maps fits made.1))

-- the files of each row of a legal world over a closed store are a file map
pub legal_files : (world : WorldState) → IsClosed world.held → IsLegal world → IsFileMap (now world).files
legal_files world closed legal = made_fits (commits_of world) world.opening world.past (file_maps world.held closed) legal.0 legal.1

-- the files of a commit are a file map
pub commit_fits : (held : List Held) → IsClosed held → (id : Id) → IsFileMap (files_of (commit_map held id))
commit_fits held closed id = held_fits (commit_map held) (file_maps held closed) id

-- ---- worlds

-- no two paths of the files that a world holds now clash
pub world_files : (name : List ℕ → List ℕ → Id) (world : WorldState) → IsWorld name world → IsFileMap (now world).files
world_files name world is = legal_files world is.closed is.legal

-- a mount of a commit, with no event, is a world
pub world_opens : (name : List ℕ → List ℕ → Id) (held : List Held) (generation limit : ℕ) (root : Id) (files : FileMap) → IsClosed held → AllNamed name held
    → IsSome (commit_map held root) → files ≡ files_of (commit_map held root) → IsWorld name (opened held generation limit root files)
world_opens name held generation limit root files closed named there is =
    record {
      closed = closed;
      named = named;
      legal = (subst IsFileMap (sym is) (commit_fits held closed root), tt);
      begins = there;
      number = omega arith;
    }

-- and so it is with one more event
pub world_grows : (name : List ℕ → List ℕ → Id) (world : WorldState) (event : Event) → IsWorld name world
    → outcome (commits_of world) (now world) event.change ≡ Next event → IsWorld name (record world { past = event ∷ world.past })
world_grows name world event is made =
    record { closed = is.closed; named = is.named; legal = (is.legal.0, (made, is.legal.1)); begins = is.begins; number = is.number }
