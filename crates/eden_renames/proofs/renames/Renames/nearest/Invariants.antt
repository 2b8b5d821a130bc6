use Rattle.std.proofs.Common.{◌<◌, length, MatchOption}
use Rattle.eden_renames.specs.internal.Told.{entry_told}
use Rattle.eden_renames.proofs.Finding.{IsNearestBefore}
use Rattle.eden_renames.proofs.renames.Renames.nearest.Given as goal

-- the nearest of those that end before the place
abbrev pub invariant-loop-at : goal.invariant-loop-at
invariant-loop-at l = record {
  near : IsNearestBefore l.self l.path l.at (entry_told l.path l.found);
  within : MatchOption l.found (Unit {0}) (λ found. found.0 < length l.path);
}
