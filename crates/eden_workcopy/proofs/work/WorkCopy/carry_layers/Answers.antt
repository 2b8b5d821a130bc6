use Rattle.std.proofs.Common.{◌≡◌, false, rules, sym, ap, ◌∙◌}
use Rattle.eden_ids.specs.FileMaps.{has_file_below}
use Rattle.eden_renames.specs.Renames.{seen_through}
use Rattle.eden_workcopy.proofs.CarriedWhole.{moved_beneath, nothing_carried}
use Rattle.eden_workcopy.proofs.work.WorkCopy.carry_layers.Goals as goal

pub returns-then-not-has_file_below-2-clause-beneath : goal.returns-then-not-has_file_below-2-clause-beneath
returns-then-not-has_file_below-2-clause-beneath g c =
    let base = seen_through c.args.commit.now c.args.self.now.renames in
    let old = c.args.old.now in
    let new = c.args.new.now in
    let low : c.has_file_below.result ≡ false = search rules in
    let high : c.has_file_below-then-not-has_file_below.result ≡ false = search rules in
    sym (nothing_carried base old new
    (ap (λ m. has_file_below m old) (sym c.base_at-base.ensures) ∙ sym c.has_file_below.ensures ∙ low)
    (ap (λ m. has_file_below m new) (sym c.base_at-base.ensures) ∙ sym c.has_file_below-then-not-has_file_below.ensures ∙ high))

pub returns-clause-beneath : goal.returns-clause-beneath
returns-clause-beneath g c =
    let work = c.args.self.now in
    moved_beneath c.args.commit.now work.renames c.done.result c.args.old.now c.args.new.now c.texts_law.ensures
    (c.done.ensures ∙ ap (λ p. p.1) c.in_ok-renaming.ensures.ready)
