use Rattle.std.proofs.Common.{◌≡◌, ◌++◌, map, take}
use Rattle.eden_follow.specs.internal.Rows.{told, told_in}
use Rattle.eden_follow.proofs.rows.add_replies.Given as goal

-- the rows of the entries so far are added
abbrev pub invariant-loop-entry : goal.invariant-loop-entry
invariant-loop-entry l = map told l.rows.items ≡ map told l.initial.rows.items ++ told_in (take l.entry-index l.entries)
