-- The changes at a path, taken back.
use Rattle.std.specs.Prelude.{ℕ, List, Option, None, is_some, if◌then◌else◌}
use Rattle.eden_ids.specs.FileMaps.{FileMap, file_at}
use Rattle.eden_history.specs.declared.change.ChangeFault.{ChangeFault}
use Rattle.eden_history.specs.Renames.{place_fault}

-- why the root's file can't be there. If the root has none, nothing refuses
abbrev pub revert_fault : FileMap → FileMap → List ℕ → Option ChangeFault
revert_fault files root path = if is_some (file_at root path) then place_fault files path else None
