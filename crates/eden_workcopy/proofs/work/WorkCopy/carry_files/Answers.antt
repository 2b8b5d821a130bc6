use Rattle.std.proofs.Common.{sym, ap, subst, ◌∙◌}
use Rattle.eden_ids.specs.Texts.{AreTexts}
use Rattle.eden_objects.specs.Commits.{commit_map}
use Rattle.eden_objects.specs.Files.{commit_files}
use Rattle.eden_objects.proofs.CommitTexts.{commits_texts}
use Rattle.eden_history.proofs.Spelled.{held_texts}
use Rattle.eden_renames.specs.Renames.{seen_through}
use Rattle.eden_renames.proofs.Seen.{seen-unmoved}
use Rattle.eden_overlay.specs.Layers.{over}
use Rattle.eden_workcopy.proofs.work.WorkCopy.carry_files.Goals as goal

pub returns-clause-files : goal.returns-clause-files
returns-clause-files g c =
    let target = commit_files c.args.store.now c.args.self.now.root in
    ap (λ m. over m c.in_ok-self.field-0) (ap (seen_through target) c.new.ensures ∙ seen-unmoved target) ∙ c.in_ok-self.ensures.files

pub returns-clause-below : goal.returns-clause-below
returns-clause-below g c =
    let held = c.args.store.now in
    let target = commit_files held c.args.self.now.root in
    subst AreTexts (sym (ap (seen_through target) c.new.ensures ∙ seen-unmoved target))
    (held_texts (commit_map held) (commits_texts held c.closed_law.ensures.closed c.closed_law.ensures.small) c.args.self.now.root)
