use Rattle.std.proofs.Common.{sym, subst}
use Rattle.std.specs.List.Sorted.{IsStrictlySortedBy}
use Rattle.eden_ids.proofs.ByteOrder.{order}
use Rattle.eden_history.proofs.DirtyFiles.{dirty_rise}
use Rattle.eden_history.proofs.SortedPaths.{each_itself}
use Rattle.eden_history.proofs.dirty.DirtyFileTree.has_file_below.Goals as goal

pub has_path_below-requires : goal.has_path_below-requires
has_path_below-requires g c =
    let listed = c.args.self.now.listed.now in
    subst (IsStrictlySortedBy order) (sym (each_itself listed)) (dirty_rise _ _ listed c.args.self.now.each)
