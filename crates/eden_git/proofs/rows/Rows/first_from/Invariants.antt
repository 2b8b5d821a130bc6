use Rattle.std.proofs.Common.{◌≡◌, ◌≤◌, ◌-◌, drop, length}
use Rattle.std.specs.List.{slice_get}
use Rattle.eden_git.specs.Entries.{plain}
use Rattle.eden_git.specs.internal.Searched.{first_from}
use Rattle.eden_git.specs.Trees.{key}
use Rattle.eden_git.proofs.rows.Rows.first_from.Given as goal

abbrev pub invariant-probes : goal.invariant-probes
invariant-probes l = record {
  order : l.low ≤ l.high;
  within : l.high ≤ length l.self;
  passed : first_from (key (plain l.wanted)) l.self ≡ first_from (key (plain l.wanted)) (drop l.low l.self);
  stays : slice_get l.self l.high ≡ first_from (key (plain l.wanted)) (drop l.high l.self);
}

abbrev pub decreases-probes : goal.decreases-probes
decreases-probes l = l.high - l.low
