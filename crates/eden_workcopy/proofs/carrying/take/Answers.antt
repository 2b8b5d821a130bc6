use Rattle.std.proofs.Common.{ap, sym, ◌∙◌}
use Rattle.std.specs.FinMap as fin
use Rattle.eden_ids.specs.FileMaps.{file_at}
use Rattle.eden_workcopy.proofs.CarriedOver.{taken_untold, untold}
use Rattle.eden_overlay.proofs.Overs.{file_below, file_told}
use Rattle.eden_workcopy.proofs.carrying.take.Goals as goal
use Rattle.eden_workcopy.proofs.carrying.take.Goals.{in-Some, in-None+in_ok-file-in-None}

pub hide-requires : goal.hide-requires
hide-requires g c = untold c.args.overlay.now c.forget.new.self c.args.path (c.forget.ensures.left ∙ ap (fin.remove c.args.overlay.now) c.as_bytes.ensures.bytes)

pub returns-clause-file : goal.returns-clause-file
returns-clause-file g c =
    let base = g.B.FileTree.files c.args.base.now in
    let layer = c.args.overlay.now in
    let path = c.args.path in
    let said = ap (fin.get layer) (sym c.as_bytes.ensures.bytes) ∙ sym c.forget.ensures.said in
    elim c.match-forget.branch [
      | in-Some w ↦ w.file-is ∙ sym (file_told base layer path w.in-Some.file (said ∙ w.in-Some.is))
      | in-None+in_ok-file-in-None w ↦
          w.file-is ∙ w.in_ok-file-in-None.ensures ∙ w.file.ensures ∙ ap (file_at base) w.as_bytes-in-None.ensures.bytes
          ∙ sym (file_below base layer path (said ∙ w.in-None.is))
    ]

pub returns-clause-files : goal.returns-clause-files
returns-clause-files g c =
    c.in_ok-hide.ensures
    ∙ taken_untold (g.B.FileTree.files c.args.base.now) c.args.overlay.now c.forget.new.self c.args.path
    (c.forget.ensures.left ∙ ap (fin.remove c.args.overlay.now) c.as_bytes.ensures.bytes)
