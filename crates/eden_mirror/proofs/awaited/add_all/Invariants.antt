use Rattle.std.proofs.Common.{◌≡◌, ◌++◌, take}
use Rattle.eden_messages.specs.Mirrors.{distinct}
use Rattle.eden_mirror.specs.internal.Pending.{fresh, pending}
use Rattle.eden_mirror.proofs.awaited.add_all.Given as goal

-- the table has its paths and the distinct ones of those that came, none of them answered
abbrev pub invariant-loop-path : goal.invariant-loop-path
invariant-loop-path l = l.paths.entries ≡ fresh (distinct (pending l.initial.paths.entries ++ take l.path-index l.listed))
