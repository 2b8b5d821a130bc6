use Rattle.std.proofs.Common.{is_some, ap, sym, ◌∙◌}
use Rattle.eden_ids.specs.FileMaps.{file_at}
use Rattle.eden_overlay.specs.Layers.{over}
use Rattle.eden_workcopy.proofs.CarriedOver.{none_taken, not_there}
use Rattle.eden_overlay.proofs.Overs.{over-remove}
use Rattle.eden_workcopy.proofs.carrying.hide.Goals as goal

pub returns-in_ok-set : goal.returns-in_ok-set
returns-in_ok-set g c =
    let base = g.B.FileTree.files c.args.base.now in
    ap (over base) c.in_ok-set.ensures.ok ∙ over-remove base c.args.overlay.now c.args.path

pub returns-else-has_file : goal.returns-else-has_file
returns-else-has_file g c =
    let base = g.B.FileTree.files c.args.base.now in
    none_taken base c.args.overlay.now c.args.path c.requires
    (not_there base c.args.path (ap (λ p. is_some (file_at base p)) (sym c.as_bytes.ensures.bytes) ∙ sym c.has_file.ensures ∙ c.if-has_file.false))
