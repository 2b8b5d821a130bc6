use Rattle.std.proofs.Common.{◌≡◌, ◌≢◌, true, false, sym, ap, subst, ◌∙◌}
use Rattle.std.specs.List.{list_any}
use Rattle.eden_ids.specs.FileMaps.{paths}
use Rattle.eden_ids.specs.Texts.{AreTexts}
use Rattle.eden_objects.specs.Files.{commit_files}
use Rattle.eden_renames.specs.Renames.{seen_through}
use Rattle.eden_history.specs.Changes.{below}
use Rattle.eden_history.specs.DirRenames.{breaks_a_path}
use Rattle.eden_overlay.specs.Carried.{breaks}
use Rattle.eden_overlay.specs.declared.carried.CarryFault.{CarryFault}
use Rattle.eden_overlay.specs.declared.carried.CarryFault.TheVariants as faults
use Rattle.eden_workcopy.specs.declared.work.WorkCopy.{WorkCopy}
use Rattle.eden_workcopy.specs.Meanings.{means}
use Rattle.eden_workcopy.specs.internal.Carrying.{each_carried, held_over}
use Rattle.eden_workcopy.proofs.CarriedOver.{broken_below, dir_carried, judged}
use Rattle.eden_workcopy.proofs.work.WorkCopy.carry_dir.Goals as goal

pub returns-in-Ok-clause-accepts : goal.returns-in-Ok-clause-accepts
returns-in-Ok-clause-accepts g c =
    let files = means c.args.store.now c.args.self.now in
    let old = c.args.old.now in
    let new = c.args.new.now in
    let whole : breaks_a_path files old new ≡ false =
    subst (λ commit. breaks_a_path (held_over commit c.args.self.now) old new ≡ false) c.requires.commit c.in-Ok.ensures.accepts in
    judged files old new false c.requires.source c.requires.distinct c.requires.way (broken_below old new (paths files) ∙ whole)

pub returns-in-Ok-carry_files-clause-accepts : goal.returns-in-Ok-carry_files-clause-accepts
returns-in-Ok-carry_files-clause-accepts g c =
    let held = c.args.store.now in
    let old = c.args.old.now in
    let new = c.args.new.now in
    judged (means held c.args.self.now) old new false c.requires.source c.requires.distinct c.requires.way
    (ap (λ (work : WorkCopy). list_any (breaks old new) (below old (paths (means held work)))) (sym c.in-Err-PathTooLong.ensures.same)
    ∙ c.in-Ok-carry_files.ensures.accepts)

pub returns-in-Ok-carry_files-clause-files : goal.returns-in-Ok-carry_files-clause-files
returns-in-Ok-carry_files-clause-files g c =
    let held = c.args.store.now in
    let old = c.args.old.now in
    let new = c.args.new.now in
    c.in-Ok-carry_files.ensures.files
    ∙ ap (λ (work : WorkCopy). each_carried old new (means held work) (below old (paths (means held work)))) c.in-Err-PathTooLong.ensures.same
    ∙ dir_carried (means held c.args.self.now) old new c.requires.source c.requires.distinct c.requires.way

pub returns-in-Err-PathTooLong-carry_files-clause-refuses : goal.returns-in-Err-PathTooLong-carry_files-clause-refuses
returns-in-Err-PathTooLong-carry_files-clause-refuses g c =
    λ other.
    let held = c.args.store.now in
    let old = c.args.old.now in
    let new = c.args.new.now in
    let fault = c.in-Err-PathTooLong-carry_files.field-0 in
    let is_other : fault ≢ faults.NoMemory = λ is.
    let bad : ◌≡◌ {A = CarryFault} faults.PathTooLong faults.NoMemory = sym c.in-Err-PathTooLong-carry_files.field-0-is ∙ is in cc in
    judged (means held c.args.self.now) old new true c.requires.source c.requires.distinct c.requires.way
    (ap (λ (work : WorkCopy). list_any (breaks old new) (below old (paths (means held work)))) (sym c.in-Err-PathTooLong.ensures.same)
    ∙ c.in-Err-PathTooLong-carry_files.ensures.refuses is_other)

pub carry_whole-requires : goal.carry_whole-requires
carry_whole-requires g c =
    subst (λ files. AreTexts (seen_through files c.args.self.now.renames)) (sym c.requires.commit) c.requires.fits.below

pub returns-in-Ok-clause-below : goal.returns-in-Ok-clause-below
returns-in-Ok-clause-below g c =
    let root = c.requires.commit ∙ ap (commit_files c.args.store.now) (sym c.carry_whole.ensures.root) in
    subst (λ files. AreTexts (seen_through files c.carry_whole.new.self.renames)) root c.in-Ok.ensures.below
