use Rattle.std.proofs.Common.{◌≡◌, ◌++◌, map, take}
use Rattle.std.specs.Prelude.{All}
use Rattle.eden_follow.specs.internal.Rows.{IsUnsent, asked, asked_in}
use Rattle.eden_follow.proofs.rows.add_requests.Given as goal

-- the rows of the entries so far are added
abbrev pub invariant-loop-entry : goal.invariant-loop-entry
invariant-loop-entry l = record {
  rows : map asked l.rows.items ≡ map asked l.initial.rows.items ++ asked_in (take l.entry-index l.entries);
  unsent : All IsUnsent l.initial.rows.items → All IsUnsent l.rows.items;
}
