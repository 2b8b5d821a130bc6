use Rattle.std.proofs.Common.{◌≡◌, true, false, None, sym, ap, subst, ◌∙◌}
use Rattle.std.specs.Prelude.{IsSome}
use Rattle.std.specs.FinMap as fin
use Rattle.eden_ids.specs.declared.id.Id.{Id}
use Rattle.eden_ids.specs.FileMaps.{IsFileMap, put_option}
use Rattle.eden_ids.specs.Texts.{AreTexts}
use Rattle.eden_objects.specs.Commits.{commit_map}
use Rattle.eden_objects.specs.Files.{commit_files}
use Rattle.eden_objects.proofs.CommitTexts.{commits_texts}
use Rattle.eden_history.proofs.Spelled.{held_texts}
use Rattle.eden_renames.specs.Renames.{is_governed, seen_through}
use Rattle.eden_renames.proofs.Settled.{own_file}
use Rattle.eden_workcopy.specs.Meanings.{FitsIn, base_of, means}
use Rattle.eden_workcopy.specs.Reverts.{revert_fault}
use Rattle.eden_workcopy.proofs.Reverted.{none_told, over-forgotten, revert_fits, some_told, texts_put, ungoverned}
use Rattle.eden_workcopy.proofs.work.WorkCopy.revert.Goals as goal

pub returns-clause-files : goal.returns-clause-files
returns-clause-files g c =
    let held = c.args.store.now in
    let work = c.args.self.now in
    let path = c.args.path.now in
    let free : is_governed work.renames path ≡ false = ungoverned (fin.entries work.renames) path
    (none_told (fin.entries work.renames) c.as_bytes.result.now path c.nearest.result c.as_bytes.ensures.bytes c.nearest.ensures.told (sym c.is_some.ensures ∙ c.if-is_some.false)) in
    over-forgotten (base_of held work) work.overlay c.forget.new.self path (c.forget.ensures.left ∙ ap (fin.remove work.overlay) c.as_bytes-2.ensures.bytes)
    ∙ ap (put_option (means held work) path) (own_file (commit_files held work.root) work.renames path free)

pub returns-clause-fits : goal.returns-clause-fits
returns-clause-fits g c =
    let held = c.args.store.now in
    let work = c.args.self.now in
    let base = commit_files held work.root in
    let free : revert_fault (means held work) base c.args.path.now ≡ None = sym c.revert_fault.ensures ∙ c.in_default.is in
    let texts = held_texts (commit_map held) (commits_texts held c.closed_law.ensures.closed c.closed_law.ensures.small) work.root in record {
      root = c.requires.root;
      files = subst IsFileMap (sym (returns-clause-files g c)) (revert_fits (means held work) base c.args.path.now c.requires.files free);
      texts = subst AreTexts (sym (returns-clause-files g c)) (texts_put (means held work) base c.args.path.now c.requires.texts texts);
      below = c.requires.below;
    }

pub returns-in_err-restore-clause-fits : goal.returns-in_err-restore-clause-fits
returns-in_err-restore-clause-fits g c = subst (FitsIn c.args.store.now) (sym c.in_err-restore.ensures.same) c.requires

pub returns-in_err-restore-clause-memory : goal.returns-in_err-restore-clause-memory
returns-in_err-restore-clause-memory g c =
    λ free.
    let entries = fin.entries c.args.self.now.renames in
    let there : is_governed c.args.self.now.renames c.args.path.now ≡ true =
    some_told entries c.as_bytes.result.now c.args.path.now c.nearest.result c.as_bytes.ensures.bytes c.nearest.ensures.told (sym c.is_some.ensures ∙ c.if-is_some.true) in
    absurd (let bad : true ≡ false = sym there ∙ free in cc)

pub returns-then-is_some-clause-fits : goal.returns-then-is_some-clause-fits
returns-then-is_some-clause-fits g c =
    let held = c.args.store.now in
    let work = c.args.self.now in
    let base = commit_files held work.root in
    let ok = c.in_ok-restore.ensures in
    let free : revert_fault (means held work) base c.args.path.now ≡ None = sym c.revert_fault.ensures ∙ c.in_default.is in
    let texts = held_texts (commit_map held) (commits_texts held c.closed_law.ensures.closed c.closed_law.ensures.small) work.root in record {
      root = subst (λ (id : Id). IsSome (commit_map held id)) (sym ok.root) c.requires.root;
      files = subst IsFileMap (sym ok.files) (revert_fits (means held work) base c.args.path.now c.requires.files free);
      texts = subst AreTexts (sym ok.files) (texts_put (means held work) base c.args.path.now c.requires.texts texts);
      below = subst AreTexts (λ i. seen_through (commit_files held (sym ok.root i)) (sym ok.renames i)) c.requires.below;
    }
