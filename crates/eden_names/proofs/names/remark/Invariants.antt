use Rattle.std.proofs.Common.{◌≡◌, ◌++◌, map}
use Rattle.eden_history.specs.Back.{places}
use Rattle.eden_names.specs.Naming.{remarked}
use Rattle.eden_names.proofs.names.remark.Given as goal

-- with the marks of the paths that are left, all are marked
abbrev pub invariant-loop-one : goal.invariant-loop-one
invariant-loop-one g l =
    l.list.items ++ map (remarked l.prefixes (places (g.B.FileTree.files l.before)) (places (g.W.FileTree.files l.now))) l.one-iterator.rest.items
    ≡ map (remarked l.prefixes (places (g.B.FileTree.files l.before)) (places (g.W.FileTree.files l.now))) l.fn.marked.items
