use Rattle.std.proofs.Common.{◌≡◌, ◌++◌, drop}
use Rattle.eden_workcopy.specs.Meanings.{means}
use Rattle.eden_names.specs.Naming.{found_below}
use Rattle.eden_names.proofs.names.add_below.Given as goal

-- with those below the directories that are left, all are added
abbrev pub invariant-loop-prefix : goal.invariant-loop-prefix
invariant-loop-prefix g l =
    l.paths.items ++ found_below (drop l.prefix-index l.prefixes) (means l.store l.work) ≡ l.initial.paths.items ++ found_below l.prefixes (means l.store l.work)
