use Rattle.std.proofs.Common.{◌≡◌, ◌++◌, filter}
use Rattle.eden_ids.specs.FileMaps.{paths}
use Rattle.eden_mirror.specs.internal.Listed.{is_unlisted}
use Rattle.eden_mirror.proofs.listing.unlisted_below.Given as goal

-- the paths so far and those of what is left are all of them
abbrev pub invariant-loop-path : goal.invariant-loop-path
invariant-loop-path l = l.gone.items ++ filter (is_unlisted l.prefix l.listed) l.path-iterator ≡ filter (is_unlisted l.prefix l.listed) (paths l.files)
