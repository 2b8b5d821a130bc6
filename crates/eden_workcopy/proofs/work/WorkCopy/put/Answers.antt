use Rattle.eden_workcopy.specs.Meanings.{base_of}
use Rattle.eden_overlay.proofs.Touched.{set_over}
use Rattle.eden_workcopy.proofs.work.WorkCopy.put.Goals as goal

pub returns-clause-files : goal.returns-clause-files
returns-clause-files c =
    λ held. set_over (base_of held c.args.self.now) c.args.self.now.overlay c.set.new.self c.args.path c.args.file c.in_ok-set.ensures.ok
