use Rattle.std.proofs.Common.{◌∷◌, ◌++◌, [], sym, ap, ◌∙◌, append_assoc, append-nil}
use Rattle.std.specs.FinMap as fin
use Rattle.eden_ids.specs.FileMaps.{AddsSomePaths, path_set, paths, union}
use Rattle.eden_ids.proofs.Fronts.{on_err}
use Rattle.eden_ids.proofs.Tables.{union-last, union-none}
use Rattle.eden_ids.proofs.files.Files.add_paths.Goals as goal

pub loop-path-init : goal.loop-path-init
loop-path-init c = ([], sym (c.into_iter-path-iterator.ensures.into_iter_gives ∙ c.paths-path-items.ensures.rest), sym (union-none c.args.table.now))

pub loop-path-preserved : goal.loop-path-preserved
loop-path-preserved c =
    let (added, split, is) = c.loop-path.invariant in
    let path = c.in-Some.path.now in (
      added ++ path ∷ [],
      split ∙ ap (λ ps. added ++ ps) c.in-Some.ensures.steps ∙ sym (append_assoc added (path ∷ []) c.next.new.self),
      c.in_ok-add.ensures.ok ∙ ap (λ t. fin.insert t path tt) is ∙ sym (union-last added path c.args.table.now),
    )

pub returns-clause-ok : goal.returns-clause-ok
returns-clause-ok c =
    let (added, split, is) = c.loop-path.invariant in
    is ∙ ap (λ ps. union (path_set ps) c.args.table.now) (sym (split ∙ ap (λ ps. added ++ ps) c.in-None.ensures.steps.0 ∙ append-nil added))

pub returns-in_err-add-clause-err : goal.returns-in_err-add-clause-err
returns-in_err-add-clause-err c =
    let (added, split, is) = c.loop-path.invariant in
    let some : AddsSomePaths (paths c.args.self.now) c.args.table.now c.add.new.self = (added, c.loop-path.path-iterator, split, c.in_err-add.ensures.err ∙ is) in
    on_err c.from_residual.result some
