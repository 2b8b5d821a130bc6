-- What a filter admits of a file map, and which paths it shows with touched ones over it.
use Rattle.std.specs.Prelude.{ℕ, not, List, filter, map}
use Rattle.std.specs.FinMap as fin
use Rattle.eden_globs.specs.Filters.{Patterns, admits}
use Rattle.eden_ids.specs.FileMaps.{FileMap, PathSet, has, path_set, paths, union}
use Rattle.eden_overlay.specs.Layers.{Mark}

-- the paths of files that a filter admits, in byte order
abbrev pub admitted : Patterns → FileMap → List (List ℕ)
admitted wanted files = filter (admits wanted) (paths files)

-- the touched paths at which a file is
abbrev pub present_in : List Mark → PathSet
present_in touched = path_set (map (λ mark. mark.0) (filter (λ mark. mark.1) touched))

-- and those at which none is
abbrev pub absent_in : List Mark → PathSet
absent_in touched = path_set (map (λ mark. mark.0) (filter (λ mark. not mark.1) touched))

-- the paths of a file map, less those that are absent, and with those that are present
abbrev pub shown_over : FileMap → List Mark → PathSet
shown_over base touched = union (fin.retain_keys (path_set (paths base)) (λ path. not (has (absent_in touched) path))) (present_in touched)
