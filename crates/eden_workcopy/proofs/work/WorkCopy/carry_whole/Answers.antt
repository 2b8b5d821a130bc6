use Rattle.std.proofs.Common.{◌≡◌, false, sym, ap, subst, ◌∙◌}
use Rattle.eden_ids.specs.Texts.{AreTexts}
use Rattle.eden_history.specs.DirRenames.{breaks_a_path}
use Rattle.eden_history.proofs.DirRenameLaws.{carried_path}
use Rattle.eden_renames.proofs.Settled.{carried_texts}
use Rattle.eden_overlay.specs.Layers.{over}
use Rattle.eden_renames.specs.Renames.{seen_through}
use Rattle.eden_overlay.proofs.CarriedLayers.{over_carried}
use Rattle.eden_workcopy.proofs.CarriedWhole.{unbroken_over}
use Rattle.eden_workcopy.proofs.work.WorkCopy.carry_whole.Goals as goal

pub returns-clause-files : goal.returns-clause-files
returns-clause-files g c =
    let work = c.args.self.now in
    let after = c.carry_layers.new.self.overlay in
    ap (λ m. over m after) c.in_ok-carry_layers.ensures.beneath
    ∙ over_carried (seen_through c.args.commit.now work.renames) work.overlay after c.args.old.now c.args.new.now c.in_ok-carry_layers.ensures.over

pub returns-clause-below : goal.returns-clause-below
returns-clause-below g c =
    let base = seen_through c.args.commit.now c.args.self.now.renames in
    let whole : breaks_a_path base c.args.old.now c.args.new.now ≡ false =
    sym c.breaks_a_path.ensures ∙ c.if-breaks_a_path.false in
    subst AreTexts (sym c.in_ok-carry_layers.ensures.beneath)
    (carried_texts base c.args.old.now c.args.new.now c.requires c.path_law.ensures.bytes (λ p some low. carried_path base c.args.old.now c.args.new.now p whole some low))

pub returns-clause-accepts : goal.returns-clause-accepts
returns-clause-accepts g c =
    let work = c.args.self.now in
    let base = seen_through c.args.commit.now work.renames in
    unbroken_over base work.overlay c.args.old.now c.args.new.now
    (sym c.breaks_a_path.ensures ∙ c.if-breaks_a_path.false)
    c.in_ok-carry_layers.ensures.accepts
