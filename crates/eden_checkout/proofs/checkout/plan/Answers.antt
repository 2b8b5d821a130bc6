use Rattle.std.proofs.Common.{rules, of_calls, is_some, ◌++◌, ap, sym, subst, ◌∙◌}
use Rattle.std.specs.Prelude.{filter}
use Rattle.std.proofs.lemmas.Fn.{always_returns_same}
use Rattle.eden_ids.specs.FileMaps.{FileMap, differ, file_at, listing}
use Rattle.eden_history.proofs.DirtyFiles.{dirty_listed}
use Rattle.eden_ids.specs.Texts.{AreTexts}
use Rattle.eden_objects.specs.Files.{commit_files}
use Rattle.eden_workcopy.specs.Meanings.{means}
use Rattle.eden_checkout.specs.Plans.{root_files}
use Rattle.eden_checkout.proofs.Planning.{files_planned, root_moved, unclean_planned}
use Rattle.eden_checkout.proofs.checkout.plan.Goals as goal

pub returns-clause-files : goal.returns-clause-files
returns-clause-files g c =
    let held = c.args.store.now in
    files_planned held c.args.mode c.args.work.now c.in_ok-start.start c.in_ok-decided.decided.next
    c.over-files.result c.commit_files-root.result c.commit_files-target.result (root_files held c.args.work.now) (commit_files held c.args.commit)
    c.over-files.ensures (c.commit_files-root.ensures ∙ ap (commit_files held) c.root-2.ensures) c.commit_files-target.ensures
    c.in_ok-start.ensures.dry c.in_ok-decided.ensures.dry c.in_ok-decided.ensures.files

pub returns-clause-unclean : goal.returns-clause-unclean
returns-clause-unclean g c =
    let held = c.args.store.now in
    c.from_vec.ensures
    ∙ unclean_planned c.args.mode (means held c.args.work.now) (root_files held c.args.work.now) (means held c.in_ok-decided.decided.next)
    (commit_files held c.in_ok-decided.decided.next.root) (commit_files held c.args.commit) c.deref-5.result.now c.in_ok-unclean.unclean.items
    (c.deref-5.ensures.value ∙ c.in_ok-changed.ensures)
    (λ kept. ap (commit_files held) (c.in_ok-decided.ensures.root ∙ c.in_ok-start.ensures.root ∙ root_moved c.args.mode c.args.work.now.root c.args.commit kept))
    c.in_ok-unclean.ensures

pub decide-requires-clause-texts : goal.decide-requires-clause-texts
decide-requires-clause-texts g c = subst AreTexts (sym c.over-files.ensures) c.requires.texts

pub invariant_of-dirty : goal.invariant_of-dirty
invariant_of-dirty g c =
    let held = c.args.store.now in
    let files = c.over-files.result in
    let root = c.commit_files-root.result in
    let changed = c.deref.ensures.value ∙ c.in_ok-changed.ensures
    ∙ ap (λ (m : FileMap). listing (differ m (root_files held c.args.work.now))) (sym c.over-files.ensures)
    ∙ ap (λ (m : FileMap). listing (differ files m)) (sym (c.commit_files-root.ensures ∙ ap (commit_files held) c.root-2.ensures)) in record {
      each =
          c.deref-2.ensures.value
          ∙ c.in_ok-push_where.ensures.ok (λ p. is_some (file_at files p)) (always_returns_same _ _ _ (λ a r f k. search (rules, of_calls)))
          ∙ ap (λ ps. ps ++ filter (λ p. is_some (file_at files p)) c.deref.result.now) c.new-listed.ensures.items
          ∙ ap (filter (λ p. is_some (file_at files p))) changed
          ∙ dirty_listed files root;
    }
