use Rattle.std.proofs.Common.{◌≡◌, take}
use Rattle.eden_messages.specs.Mirrors.{distinct}
use Rattle.eden_messages.specs.Spells.{paths_of}
use Rattle.eden_mirror.specs.internal.Pending.{fresh}
use Rattle.eden_mirror.proofs.awaited.Awaited.of_marked.Given as goal

-- the table has the distinct paths of those that came, none of them answered
abbrev pub invariant-loop-marked : goal.invariant-loop-marked
invariant-loop-marked l = l.paths.entries ≡ fresh (distinct (paths_of (take l.marked-index l.listed)))
