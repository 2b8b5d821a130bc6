use Rattle.std.proofs.Common.{◌≡◌, ◌++◌, take}
use Rattle.std.specs.List.{flat_map}
use Rattle.eden_renames.specs.internal.Listed.{list_own}
use Rattle.eden_renames.proofs.listing.add_seen_by.Given as goal

-- what the directories so far show is there
abbrev pub invariant-loop-entry : goal.invariant-loop-entry
invariant-loop-entry g l =
    l.list.items ≡ l.initial.list.items ++ flat_map (λ e. list_own l.commit l.renames l.wanted e.0) (take l.entry-index l.entries)
