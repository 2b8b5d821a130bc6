use Rattle.std.proofs.Common.{◌≡◌, take}
use Rattle.eden_workcopy.specs.Meanings.{means}
use Rattle.eden_history.specs.Checkouts.{rule_of}
use Rattle.eden_checkout.proofs.Settling.{Settled}
use Rattle.eden_checkout.proofs.apply.apply_rule.Given as goal

abbrev pub invariant-loop-path : goal.invariant-loop-path
invariant-loop-path g l = record {
  root : l.next.root ≡ l.initial.next.root;
  renames : l.next.renames ≡ l.initial.next.renames;
  files : Settled (rule_of l.mode (g.W.FileTree.files l.sides.work.now) (g.R.FileTree.files l.sides.root.now) (g.T.FileTree.files l.sides.target.now))
      (means l.store l.initial.next) (take l.path-index l.paths) (means l.store l.next);
}
