-- The files of a file map without their bytes.
use Rattle.std.specs.Prelude.{ℕ, List, map, filter}
use Rattle.std.specs.FinMap as fin
use Rattle.eden_globs.specs.Filters.{Patterns, admits}
use Rattle.eden_ids.specs.declared.content.Content.{Content}
use Rattle.eden_ids.specs.FileMaps.{FileMap}
use Rattle.eden_ids.specs.Paths.{lies_below}
use Rattle.eden_objects.specs.Stats.{stat_of}
use Rattle.eden_history.specs.declared.described.Described.{Described}
use Rattle.eden_history.specs.Worlds.{Namer}

-- a path with its file, without the file's bytes
abbrev pub description : Namer → List ℕ × Content → Described
description name entry = record { path = entry.0; stat = stat_of name entry.1 }

-- the files at the paths that a filter admits, in byte order
abbrev pub described : Namer → Patterns → FileMap → List Described
described name patterns files = map (description name) (filter (λ entry. admits patterns entry.0) (fin.entries files))

-- those of them that are below a directory
abbrev pub described_below : List ℕ → List Described → List Described
described_below prefix files = filter (λ one. lies_below one.path prefix) files
