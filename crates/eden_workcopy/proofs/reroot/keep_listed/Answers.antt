use Rattle.std.proofs.Common.{refl, arith}
use Rattle.std.specs.FinMap as fin
use Rattle.eden_overlay.specs.Layers.{over}
use Rattle.eden_workcopy.proofs.Rerooted.{below_keeps, differs_at, each_last, each_next, kept_still, leaves_paths, no_paths_left, same_files}
use Rattle.eden_workcopy.proofs.reroot.keep_listed.Goals as goal

pub loop-path-init : goal.loop-path-init
loop-path-init g c = record { each = refl; kept = λ base is kept. (kept, λ next nearer all. all) }

pub loop-path-preserved : goal.loop-path-preserved
loop-path-preserved g c = record {
  each = each_next (g.R.FileTree.files c.args.root.now) c.args.touched.now c.loop-path.next c.keep_below.new.next c.args.paths.now c.loop-path.path-index c.path-item.result _ (omega arith) c.path-item.is
      c.in_ok-keep_below.ensures c.loop-path.invariant.each;
  kept = λ base is kept.
      let root = g.R.FileTree.files c.args.root.now in
      let layer = c.args.touched.now in
      let p = c.path-item.result in
      let now = c.loop-path.invariant.kept base is kept in
      let keeps = below_keeps root base layer c.loop-path.next c.keep_below.new.next p c.in_ok-keep_below.ensures
      (differs_at root base c.args.paths.now c.loop-path.path-index p is (omega arith) c.path-item.is) now.0.here in (
        kept_still (over root layer) base c.loop-path.next c.keep_below.new.next p (fin.keys layer) keeps now.0,
        leaves_paths (over root layer) (over base c.loop-path.next) (over base c.keep_below.new.next) c.args.paths.now c.loop-path.path-index p (omega arith) c.path-item.is now.1
            keeps.there keeps.here,
      );
}

pub returns-clause-files : goal.returns-clause-files
returns-clause-files g c =
    λ base is kept.
    let root = g.R.FileTree.files c.args.root.now in
    let layer = c.args.touched.now in
    let now = c.loop-path.invariant.kept base is kept in
    same_files root base (over base c.loop-path.next) layer c.args.paths.now is now.0.here
    (no_paths_left (over root layer) (over base c.loop-path.next) (over base c.loop-path.next) c.args.paths.now c.loop-path.path-index (omega arith) now.1 (λ p agrees. agrees))
    now.0.there

pub returns-clause-lean : goal.returns-clause-lean
returns-clause-lean g c = λ base is kept. (c.loop-path.invariant.kept base is kept).0.lean

pub returns-clause-each : goal.returns-clause-each
returns-clause-each g c =
    each_last (g.R.FileTree.files c.args.root.now) c.args.touched.now c.loop-path.next c.args.paths.now c.loop-path.path-index _ (omega arith) c.loop-path.invariant.each
