use Rattle.std.proofs.Common.{sym, subst}
use Rattle.eden_ids.specs.FileMaps.{IsFileMap}
use Rattle.eden_ids.specs.Texts.{AreBytes, AreTexts}
use Rattle.eden_ids.proofs.TextLemmas.{texts_insert}
use Rattle.eden_workcopy.specs.Meanings.{base_of, means}
use Rattle.eden_history.proofs.RenameLaws.{write_fits}
use Rattle.eden_history.proofs.Spelled.{written_text}
use Rattle.eden_workcopy.proofs.Works.{written}
use Rattle.eden_workcopy.proofs.work.WorkCopy.put_file.Goals as goal

pub returns-clause-files : goal.returns-clause-files
returns-clause-files c =
    λ held. written (base_of held c.args.self.now) c.args.self.now.overlay c.set.new.self c.in_ok-key.key c.args.path.now (record { kind = c.args.kind; bytes = c.in_ok-bytes.bytes })
    (record { kind = c.args.kind; bytes = c.args.bytes.now }) c.in_ok-set.ensures.ok c.in_ok-key.ensures (λ i. record { kind = c.args.kind; bytes = c.in_ok-bytes.ensures.cases i })

pub returns-clause-fits : goal.returns-clause-fits
returns-clause-fits c =
    λ held fits free. record {
      root = fits.root;
      below = fits.below;
      files = subst IsFileMap (sym (returns-clause-files c held))
          (write_fits (means held c.args.self.now) c.args.path.now c.args.bytes.now (record { kind = c.args.kind; bytes = c.args.bytes.now }) fits.files free);
      texts = subst AreTexts (sym (returns-clause-files c held))
          (texts_insert (means held c.args.self.now) c.args.path.now (record { kind = c.args.kind; bytes = c.args.bytes.now }) fits.texts c.path_law.ensures
          (written_text (means held c.args.self.now) c.args.path.now c.args.bytes.now c.args.kind free (subst AreBytes c.as_slice.ensures c.bytes_law.ensures)));
    }
