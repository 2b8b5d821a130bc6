use Rattle.std.proofs.Common.{◌≡◌, ◌++◌, map}
use Rattle.std.specs.Vec.Iter.{into_iter_items}
use Rattle.eden_objects.proofs.commit.only_paths.Given as goal

-- the paths so far, and those of what is left
abbrev pub invariant-loop-row : goal.invariant-loop-row
invariant-loop-row l =
    l.list.items ++ map (λ row. row.0) (into_iter_items l.row-iterator) ≡ map (λ row. row.0) l.fn.rows.items
