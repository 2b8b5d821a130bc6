use Rattle.std.proofs.Common.{◌∙◌}
use Rattle.eden_ids.specs.FileMaps.{lent}
use Rattle.eden_workcopy.specs.Meanings.{means}
use Rattle.eden_history.specs.Checkouts.{rule_of}
use Rattle.eden_checkout.proofs.Settling.{settled_more}
use Rattle.eden_checkout.proofs.apply.apply_rule.Goals as goal

pub loop-path-preserved : goal.loop-path-preserved
loop-path-preserved g c =
    let held = c.args.store.now in
    let sides = c.args.sides.now in record {
      root = c.in_ok-put.ensures.root ∙ c.loop-path.invariant.root;
      renames = c.in_ok-put.ensures.renames ∙ c.loop-path.invariant.renames;
      files =
          settled_more
          (rule_of c.args.mode (g.W.FileTree.files sides.work.now) (g.R.FileTree.files sides.root.now) (g.T.FileTree.files sides.target.now))
          (means held c.args.next.now) (means held c.loop-path.next) (means held c.put.new.next) c.args.paths.now c.loop-path.path-index c.path-item.result
          (lent c.file_after.result) c.loop-path-test.true c.path-item.is c.in_ok-put.ensures.files c.file_after.ensures c.loop-path.invariant.files;
    }
