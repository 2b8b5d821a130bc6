use Rattle.std.proofs.Common.{sym, subst}
use Rattle.eden_ids.specs.FileMaps.{IsFileMap}
use Rattle.eden_ids.specs.Texts.{AreTexts}
use Rattle.eden_ids.proofs.FileMapLemmas.{IsFileMap-remove}
use Rattle.eden_ids.proofs.TextLemmas.{texts_remove}
use Rattle.eden_workcopy.specs.Meanings.{base_of, means}
use Rattle.eden_workcopy.proofs.Works.{removed}
use Rattle.eden_workcopy.proofs.work.WorkCopy.take_file.Goals as goal

pub returns-clause-files : goal.returns-clause-files
returns-clause-files c =
    λ held. removed (base_of held c.args.self.now) c.args.self.now.overlay c.set.new.self c.in_ok-key.key c.args.path.now c.in_ok-set.ensures.ok c.in_ok-key.ensures

pub returns-clause-fits : goal.returns-clause-fits
returns-clause-fits c =
    λ held fits. record {
      root = fits.root;
      below = fits.below;
      files = subst IsFileMap (sym (returns-clause-files c held)) (IsFileMap-remove (means held c.args.self.now) c.args.path.now fits.files);
      texts = subst AreTexts (sym (returns-clause-files c held)) (texts_remove (means held c.args.self.now) c.args.path.now fits.texts);
    }
