-- The paths that a range names, with those below the directories that were renamed in it.
use Rattle.std.specs.Prelude.{ℕ, if◌then◌else◌, List, ◌++◌, map}
use Rattle.std.specs.List.{flat_map}
use Rattle.eden_ids.specs.FileMaps.{FileMap, paths}
use Rattle.eden_objects.specs.Objects.{Held}
use Rattle.eden_history.specs.declared.mark.Marked.{Marked}
use Rattle.eden_history.specs.Back.{Places, places}
use Rattle.eden_history.specs.Changes.{below, below_any}
use Rattle.eden_history.specs.Marks.{mark_by}
use Rattle.eden_ranges.specs.declared.ranges.Range.{Range}
use Rattle.eden_ranges.specs.Expanded.{expanded}

-- the files below these directories
abbrev pub found_below : List (List ℕ) → FileMap → List (List ℕ)
found_below prefixes files = flat_map (λ prefix. below prefix (paths files)) prefixes

-- below one of the directories, the mark says whether a file was there before and is there now
abbrev pub remarked : List (List ℕ) → Places → Places → Marked → Marked
remarked prefixes before now one =
    if below_any prefixes one.path then record { mark = mark_by (before one.path) (now one.path); path = one.path } else one

-- the range, if the root names these paths too
abbrev pub with_roots : Range → List (List ℕ) → Range
with_roots range more = record range { unclean = range.unclean ++ more }

-- each path of a range, also below its directories, by the files before it and those now
abbrev pub named_by : List Held → Range → FileMap → FileMap → List Marked
named_by held range before now =
    map (remarked range.prefixes (places before) (places now))
    (expanded held (with_roots range (found_below range.prefixes now ++ found_below range.prefixes before)))
