use Rattle.std.proofs.Common.{sym, ap, subst, ◌∙◌}
use Rattle.std.proofs.lemmas.Result.{err_from_is_err_and}
use Rattle.eden_ids.specs.FileMaps.{FileMap, IsFileMap, differ, listing}
use Rattle.eden_ids.specs.Texts.{AreTexts}
use Rattle.eden_objects.specs.Commits.{commit_map}
use Rattle.eden_objects.specs.Files.{commit_files}
use Rattle.eden_workcopy.specs.internal.Agreements.{IsLean}
use Rattle.eden_overlay.specs.Layers.{over}
use Rattle.eden_objects.proofs.CommitTexts.{commits_texts}
use Rattle.eden_history.proofs.Spelled.{held_texts}
use Rattle.eden_renames.specs.Renames.{seen_through}
use Rattle.eden_renames.proofs.Seen.{seen-unmoved}
use Rattle.eden_workcopy.specs.Meanings.{means}
use Rattle.eden_workcopy.proofs.Rerooted.{lean_differs, listed_differ, no_second}
use Rattle.eden_workcopy.proofs.work.WorkCopy.reroot.Goals as goal

pub returns-in_err-paths-clause-refuses : goal.returns-in_err-paths-clause-refuses
returns-in_err-paths-clause-refuses g c =
    let p = err_from_is_err_and c.from_residual.result c.from_residual.ensures.1 in
    rw (p.1, p.2) (λ other. no_second (commit_map c.args.store.now c.args.self.now.root) (commit_map c.args.store.now c.args.commit) c.requires.root (c.in_err-paths.ensures.fault other))

pub returns-clause-files : goal.returns-clause-files
returns-clause-files g c =
    let held = c.args.store.now in
    let target = commit_files held c.args.commit in
    let touched = c.flat_or-touched.result.now in
    let root = c.commit_files.result in
    let base = c.commit_files-base.result in
    let listed = c.deref.ensures.value ∙ (listed_differ (commit_map held c.args.self.now.root) (commit_map held c.args.commit) c.in_ok-paths.paths.items c.in_ok-paths.ensures.paths).1
    ∙ ap (λ (m : FileMap). listing (differ m target)) (sym c.commit_files.ensures)
    ∙ ap (λ (m : FileMap). listing (differ root m)) (sym c.commit_files-base.ensures) in
    ap (λ (m : FileMap). over m c.keep_listed.new.next) (ap (seen_through target) c.new.ensures ∙ seen-unmoved target ∙ sym c.commit_files-base.ensures)
    ∙ c.in_ok-keep_listed.ensures.files base listed (c.in_ok-overlay.ensures root)
    ∙ ap (λ (m : FileMap). over m touched) c.commit_files.ensures
    ∙ ap (over (commit_files held c.args.self.now.root)) c.flat_or-touched.ensures
    ∙ c.in_ok-flat.ensures

pub returns-clause-fits : goal.returns-clause-fits
returns-clause-fits g c =
    let held = c.args.store.now in
    let target = commit_files held c.args.commit in
    let differs = listed_differ (commit_map held c.args.self.now.root) (commit_map held c.args.commit) c.in_ok-paths.paths.items c.in_ok-paths.ensures.paths in record {
      root = differs.0;
      files = subst IsFileMap (sym (returns-clause-files g c)) c.requires.files;
      texts = subst AreTexts (sym (returns-clause-files g c)) c.requires.texts;
      below = subst AreTexts (sym (ap (seen_through target) c.new.ensures ∙ seen-unmoved target))
          (held_texts (commit_map held) (commits_texts held c.closed_law.ensures.closed c.closed_law.ensures.small) c.args.commit);
    }

pub returns-clause-lean : goal.returns-clause-lean
returns-clause-lean g c =
    let held = c.args.store.now in
    let target = commit_files held c.args.commit in
    let touched = c.flat_or-touched.result.now in
    let next = c.keep_listed.new.next in
    let root = c.commit_files.result in
    let base = c.commit_files-base.result in
    let wanted = means held c.args.self.now in
    let listed = c.deref.ensures.value ∙ (listed_differ (commit_map held c.args.self.now.root) (commit_map held c.args.commit) c.in_ok-paths.paths.items c.in_ok-paths.ensures.paths).1
    ∙ ap (λ (m : FileMap). listing (differ m target)) (sym c.commit_files.ensures)
    ∙ ap (λ (m : FileMap). listing (differ root m)) (sym c.commit_files-base.ensures) in
    let lean = c.in_ok-keep_listed.ensures.lean base listed (c.in_ok-overlay.ensures root) in
    let seen = ap (λ (m : FileMap). over m touched) c.commit_files.ensures ∙ ap (over (commit_files held c.args.self.now.root)) c.flat_or-touched.ensures ∙ c.in_ok-flat.ensures in
    lean_differs wanted (over (seen_through target c.new.result) next) target next (returns-clause-files g c)
    (subst (λ (m : FileMap). IsLean wanted m next) c.commit_files-base.ensures (subst (λ (m : FileMap). IsLean m base next) seen lean))
