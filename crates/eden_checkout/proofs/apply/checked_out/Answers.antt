use Rattle.eden_workcopy.specs.Meanings.{means}
use Rattle.eden_checkout.proofs.Settling.{all_settled}
use Rattle.eden_checkout.proofs.apply.checked_out.Goals as goal

pub returns-clause-files : goal.returns-clause-files
returns-clause-files g c =
    let held = c.args.store.now in
    let sides = c.args.sides.now in
    all_settled c.args.mode (g.W.FileTree.files sides.work.now) (g.R.FileTree.files sides.root.now) (g.T.FileTree.files sides.target.now)
    (means held c.args.start) (means held c.apply_rule.new.next) (means held c.apply_rule-2.new.next) sides.changed.now c.args.found.now
    c.requires.mode c.args.sides.now.each c.requires.found c.requires.start c.in_ok-apply_rule.ensures.files c.in_ok-apply_rule-2.ensures.files
