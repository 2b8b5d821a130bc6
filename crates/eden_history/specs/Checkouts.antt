-- What a checkout does to the files, in the modes of EdenFS's CheckoutMode (eden.thrift):
-- NORMAL, DRY_RUN and FORCE. `work` is the working copy, `root` the commit below it, and
-- `target` the commit that is checked out.
use Rattle.std.specs.Prelude.{ℕ, Bool, true, false, not, ◌&&◌, ◌||◌, if◌then◌else◌, List, ◌++◌, Option, None, is_some}
use Rattle.std.specs.List.{list_any}
use Rattle.std.specs.FinMap as fin
use Rattle.eden_ids.specs.declared.content.Content.{Content}
use Rattle.eden_ids.specs.Paths.{clashes}
use Rattle.eden_ids.specs.FileMaps.{FileMap, PathSet, clashes_any, file_at, paths, same_file, differ, union, path_set, tabulate}
use Rattle.eden_history.specs.declared.change.Mode.{Mode}
use Rattle.eden_history.specs.declared.change.Mode.TheVariants.{Normal, Dry, Force}

-- a path is clean if the working copy holds the root's file, or neither holds one; else
-- it is dirty
abbrev pub is_clean : FileMap → FileMap → List ℕ → Bool
is_clean work root p = same_file (file_at work p) (file_at root p)

-- the path clashes with a dirty path at which the working copy holds a file
abbrev pub clashes_dirty : FileMap → FileMap → List ℕ → Bool
clashes_dirty work root p = list_any (λ q. clashes p q && not (is_clean work root q)) (paths work)

-- the target holds the path, and it clashes with a dirty path at which the working copy
-- holds a file
abbrev pub is_blocked : FileMap → FileMap → FileMap → List ℕ → Bool
is_blocked work root target p = is_some (file_at target p) && clashes_dirty work root p

abbrev pub paths_of_all : FileMap → FileMap → FileMap → List (List ℕ)
paths_of_all work root target = paths work ++ (paths root ++ paths target)

-- Normal: a dirty path stays. A clean path of the target has no file if it is blocked by
-- a dirty file that it clashes with. Any other clean path gets the target's file.
abbrev pub normal_rule : FileMap → FileMap → FileMap → List ℕ → Option Content
normal_rule work root target p =
    if is_clean work root p
    then (if is_blocked work root target p then None else file_at target p)
    else file_at work p

unfoldable pub normal_files : FileMap → FileMap → FileMap → FileMap
normal_files work root target = tabulate (paths_of_all work root target) (normal_rule work root target)

-- Force: a path of the root or of the target gets the target's file. Any other has no
-- file if it clashes with a path of the target, and else stays.
abbrev pub force_rule : FileMap → FileMap → FileMap → List ℕ → Option Content
force_rule work root target p =
    if is_some (file_at root p) || is_some (file_at target p) then file_at target p else
    if clashes_any target p then None else file_at work p

unfoldable pub force_files : FileMap → FileMap → FileMap → FileMap
force_files work root target = tabulate (paths_of_all work root target) (force_rule work root target)

-- a checkout that is only tried
abbrev pub is_dry : Mode → Bool
is_dry Normal = false
is_dry Dry = true
is_dry Force = false

-- the file at a path after a checkout in a mode; one that is only tried leaves it
abbrev pub rule_of : Mode → FileMap → FileMap → FileMap → List ℕ → Option Content
rule_of Normal work root target p = normal_rule work root target p
rule_of Dry work root target p = file_at work p
rule_of Force work root target p = force_rule work root target p

-- the files after a checkout in a mode
abbrev pub checked_out : Mode → FileMap → FileMap → FileMap → FileMap
checked_out Normal work root target = normal_files work root target
checked_out Dry work root target = work
checked_out Force work root target = force_files work root target

-- a conflict, in each mode: a clean path that is blocked, or a dirty path at which root
-- and target differ and the working copy differs from the target
abbrev pub is_conflict : FileMap → FileMap → FileMap → List ℕ → Bool
is_conflict work root target p =
    if is_clean work root p then is_blocked work root target p else
    not (same_file (file_at root p) (file_at target p)) && not (same_file (file_at work p) (file_at target p))

unfoldable pub conflicts : FileMap → FileMap → FileMap → PathSet
conflicts work root target = fin.retain_keys (path_set (paths_of_all work root target)) (is_conflict work root target)

-- the paths that differ from the old commit before a checkout, and those that differ from
-- the new one after it
unfoldable pub unclean : FileMap → FileMap → FileMap → FileMap → PathSet
unclean work root next target = union (differ work root) (differ next target)
