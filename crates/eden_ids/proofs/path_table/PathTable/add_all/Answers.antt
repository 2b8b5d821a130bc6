use Rattle.std.proofs.Common.{◌∷◌, ◌++◌, [], take, drop, sym, ap, ◌∙◌, arith}
use Rattle.std.proofs.lemmas.List.{take-append-drop, take_all, take_more}
use Rattle.std.specs.FinMap as fin
use Rattle.eden_ids.specs.FileMaps.{AddsSomePaths, path_set, union}
use Rattle.eden_ids.proofs.Fronts.{on_err}
use Rattle.eden_ids.proofs.Tables.{union-last, union-none}
use Rattle.eden_ids.proofs.path_table.PathTable.add_all.Goals as goal

pub loop-path-init : goal.loop-path-init
loop-path-init c = sym (union-none c.args.self.now)

pub loop-path-preserved : goal.loop-path-preserved
loop-path-preserved c =
    let ps = c.args.paths.now in
    let at = c.loop-path.path-index in
    c.in_ok-add.ensures.ok
    ∙ ap (λ t. fin.insert t c.path-item.result tt) c.loop-path.invariant
    ∙ sym (union-last (take at ps) c.path-item.result c.args.self.now)
    ∙ ap (λ qs. union (path_set qs) c.args.self.now) (sym (take_more ps at c.path-item.result (omega arith) ∙ ap (λ p. take at ps ++ p ∷ []) (sym c.path-item.is)))

pub returns-clause-ok : goal.returns-clause-ok
returns-clause-ok c = c.loop-path.invariant ∙ ap (λ qs. union (path_set qs) c.args.self.now) (take_all c.loop-path.path-index c.args.paths.now (omega arith))

pub returns-in_err-add-clause-err : goal.returns-in_err-add-clause-err
returns-in_err-add-clause-err c =
    let ps = c.args.paths.now in
    let at = c.loop-path.path-index in
    let some : AddsSomePaths ps c.args.self.now c.add.new.self = (take at ps, drop at ps, sym (take-append-drop at ps), c.in_err-add.ensures.err ∙ c.loop-path.invariant) in
    on_err c.from_residual.result some
