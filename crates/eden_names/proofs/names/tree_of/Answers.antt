use Rattle.std.proofs.Common.{◌≡◌, ℕ, ◌+◌, ◌||◌, List, ◌∷◌, drop, sym, ap, ◌∙◌, arith}
use Rattle.std.proofs.lemmas.List.{drop_more}
use Rattle.std.specs.FinMap as fin
use Rattle.eden_ids.specs.FileMaps.{has_file_above}
use Rattle.eden_history.specs.Changes.{below_any}
use Rattle.eden_names.proofs.Named.{next_above, none_above_none}
use Rattle.eden_names.proofs.names.tree_of.Goals as goal

pub loop-prefix-init : goal.loop-prefix-init
loop-prefix-init c = λ path.
    ap (λ tree. has_file_above tree path || below_any c.args.prefixes.now path) c.new-tree.ensures
    ∙ ap (λ b. b || below_any c.args.prefixes.now path) (none_above_none path)

pub loop-prefix-preserved : goal.loop-prefix-preserved
loop-prefix-preserved c = λ path.
    let prefixes = c.args.prefixes.now in
    let i = c.loop-prefix.prefix-index in
    let prefix = c.prefix-item.result in
    let more = drop_more prefixes i prefix (omega arith) ∙ ap (λ y. y ∷ drop (i + 1) prefixes) (sym c.prefix-item.is) in
    next_above c.loop-prefix.tree c.insert.new.self prefix c.in_ok-file.file path (below_any (drop (i + 1) prefixes) path) (below_any prefixes path)
    (c.in_ok-insert.ensures.ok ∙ ap (λ k. fin.insert c.loop-prefix.tree k c.in_ok-file.file) c.in_ok-copy.ensures)
    (sym (ap (λ ps. has_file_above c.loop-prefix.tree path || below_any ps path) more) ∙ c.loop-prefix.invariant path)
