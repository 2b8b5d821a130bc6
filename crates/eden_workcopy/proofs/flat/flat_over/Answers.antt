use Rattle.std.proofs.Common.{ap, subst, ◌∙◌}
use Rattle.eden_ids.specs.FileMaps.{listing}
use Rattle.eden_ids.specs.Texts.{AreTexts}
use Rattle.eden_objects.specs.Files.{commit_files}
use Rattle.eden_renames.specs.Renames.{seen_through, unsettled}
use Rattle.eden_workcopy.specs.internal.Agreements.{kept_each}
use Rattle.eden_workcopy.proofs.FlatFiles.{elsewhere, flat_files, here, seen, unmoved}
use Rattle.eden_workcopy.proofs.flat.flat_over.Goals as goal

pub returns-then-is_empty : goal.returns-then-is_empty
returns-then-is_empty g c =
    let files = commit_files c.args.store.now c.args.root in
    unmoved files c.args.renames.now c.args.overlay.now (c.is_empty.ensures.0 c.if-is_empty.true) (subst AreTexts c.commit_files-commit.ensures c.texts_law.ensures)

pub returns : goal.returns
returns g c =
    let files = commit_files c.args.store.now c.args.root in
    let renames = c.args.renames.now in
    let overlay = c.args.overlay.now in
    let paths = c.in_ok-paths.paths.items in
    let listed = c.in_ok-paths.ensures ∙ ap (λ m. listing (unsettled m renames)) c.commit_files-commit.ensures in
    let base = c.of-base.ensures ∙ ap (λ m. seen_through m renames) c.commit_files-commit.ensures in
    flat_files (seen_through files renames) (seen files renames) files overlay c.keep_listed.new.next paths
    (c.in_ok-keep_listed.ensures.each ∙ (λ i. kept_each (base i) overlay (c.in_ok-flat.ensures i) (c.deref.ensures.value i)))
    (here files renames paths listed) (elsewhere files renames paths listed (subst AreTexts c.commit_files-commit.ensures c.texts_law.ensures))
