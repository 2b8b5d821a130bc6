use Rattle.std.proofs.Common.{◌≡◌, false, sym, subst, ◌∙◌}
use Rattle.eden_ids.specs.FileMaps.{IsFileMap}
use Rattle.eden_ids.specs.Texts.{AreTexts}
use Rattle.eden_ids.specs.Sameness.{same_bytes}
use Rattle.eden_workcopy.specs.Meanings.{base_of, means}
use Rattle.eden_history.proofs.RenameLaws.{rename_fits}
use Rattle.eden_history.proofs.Spelled.{texts_renamed}
use Rattle.eden_workcopy.proofs.Works.{shifted}
use Rattle.eden_workcopy.proofs.work.WorkCopy.shift_file.Goals as goal

pub returns-clause-files : goal.returns-clause-files
returns-clause-files c =
    λ held file.
    let other : same_bytes c.args.old.now c.args.new.now ≡ false = sym c.eq.ensures ∙ c.if-eq.false in
    shifted (base_of held c.args.self.now) c.args.self.now.overlay c.shift.new.self c.in_ok-from.from c.in_ok-to.to c.args.old.now c.args.new.now c.args.content
    c.in_ok-shift.ensures.ok c.in_ok-from.ensures c.in_ok-to.ensures (sym file) other

pub returns-clause-fits : goal.returns-clause-fits
returns-clause-fits c =
    λ held file fits free. record {
      root = fits.root;
      below = fits.below;
      files = subst IsFileMap (sym (returns-clause-files c held file)) (rename_fits (means held c.args.self.now) c.args.old.now c.args.new.now fits.files free);
      texts = subst AreTexts (sym (returns-clause-files c held file)) (texts_renamed (means held c.args.self.now) c.args.old.now c.args.new.now fits.texts c.path_law.ensures);
    }
