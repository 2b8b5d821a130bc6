-- The files that a snapshot shows: those of its commit, at the places to which
-- directories were renamed, except at the paths that changes touched, for which it keeps
-- the file. Over a store other than the one it was taken from, a directory may show files
-- at invalid paths: those are left out.
use Rattle.std.specs.Prelude.{ℕ, List}
use Rattle.eden_globs.specs.Filters.{Patterns}
use Rattle.eden_ids.specs.FileMaps.{FileMap}
use Rattle.eden_objects.specs.Objects.{Held}
use Rattle.eden_objects.specs.Files.{commit_files}
use Rattle.eden_renames.specs.Renames.{at_paths, seen_through}
use Rattle.eden_overlay.specs.Layers.{over}
use Rattle.eden_overlay.specs.Listings.{admitted}
use Rattle.eden_accumulate.specs.declared.snapshot.Snapshot.{Snapshot}

-- these files
abbrev pub shown : List Held → Snapshot → FileMap
shown held snapshot = over (at_paths (seen_through (commit_files held snapshot.position.root) snapshot.renames)) snapshot.overlay

-- the paths of those of them that a filter admits, in byte order
abbrev pub shown_to : Patterns → List Held → Snapshot → List (List ℕ)
shown_to patterns held snapshot = admitted patterns (shown held snapshot)
