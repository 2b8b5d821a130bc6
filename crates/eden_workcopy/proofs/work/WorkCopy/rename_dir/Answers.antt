use Rattle.std.proofs.Common.{sym, ap, subst, ◌∙◌}
use Rattle.std.specs.Prelude.{IsSome}
use Rattle.eden_ids.specs.declared.id.Id.{Id}
use Rattle.eden_objects.specs.Commits.{commit_map}
use Rattle.eden_ids.specs.FileMaps.{IsFileMap}
use Rattle.eden_ids.specs.Texts.{AreTexts}
use Rattle.eden_history.specs.DirRenames.{source_fault}
use Rattle.eden_history.proofs.DirRenameLaws.{rename_dir_fits}
use Rattle.eden_history.proofs.Spelled.{texts_dir_renamed}
use Rattle.eden_workcopy.specs.Meanings.{means}
use Rattle.eden_workcopy.specs.internal.Carrying.{way_fault}
use Rattle.eden_workcopy.proofs.work.WorkCopy.rename_dir.Goals as goal

pub carry_dir-requires-clause-source : goal.carry_dir-requires-clause-source
carry_dir-requires-clause-source g c = sym (c.source_fault.ensures ∙ ap (λ n. source_fault n c.args.old.now) c.over-files.ensures) ∙ c.in_default.is

pub carry_dir-requires-clause-distinct : goal.carry_dir-requires-clause-distinct
carry_dir-requires-clause-distinct g c = sym c.eq.ensures ∙ c.if-eq.false

pub carry_dir-requires-clause-way : goal.carry_dir-requires-clause-way
carry_dir-requires-clause-way g c = sym (c.way_fault.ensures ∙ ap (λ n. way_fault n c.args.old.now c.args.new.now) c.over-files.ensures) ∙ c.in_default-way_fault.is

pub returns-clause-fits : goal.returns-clause-fits
returns-clause-fits g c =
    let m = means c.args.store.now c.args.self.now in
    let old = c.args.old.now in
    let new = c.args.new.now in
    let ok = c.in_ok-carry_dir.ensures in record {
      root = subst (λ (id : Id). IsSome (commit_map c.args.store.now id)) (sym ok.root) c.requires.root;
      files = subst IsFileMap (sym ok.files) (rename_dir_fits m old new c.requires.files ok.accepts);
      texts = subst AreTexts (sym ok.files) (texts_dir_renamed m old new c.requires.texts c.path_law.ensures ok.accepts);
      below = ok.below;
    }
