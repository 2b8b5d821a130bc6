use Rattle.std.proofs.Common.{◌≡◌, take}
use Rattle.eden_mirror.proofs.Unlisted.{but}
use Rattle.eden_mirror.proofs.listing.remove_all.Given as goal

-- the files but those at the paths so far
abbrev pub invariant-loop-path : goal.invariant-loop-path
invariant-loop-path l = l.files ≡ but l.initial.files (take l.path-index l.gone)
