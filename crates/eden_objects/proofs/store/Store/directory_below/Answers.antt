use Rattle.eden_objects.proofs.Below.{at_start, at_end, at_stop, at_step}
use Rattle.eden_objects.proofs.store.Store.directory_below.Goals as goal

pub walk-init : goal.walk-init
walk-init g c = at_start c.args.self.now c.args.tree c.args.path.now c.requires

pub returns-in-None : goal.returns-in-None
returns-in-None g c =
    at_end c.args.self.now c.args.tree c.walk.dir c.args.path.now c.walk.rest.now c.directory_in.result c.closed_law.ensures.closed c.walk.invariant c.in-None.ensures
    c.directory_in.ensures

pub returns-in-None-directory_in : goal.returns-in-None-directory_in
returns-in-None-directory_in g c =
    at_stop c.args.self.now c.args.tree c.walk.dir c.args.path.now c.walk.rest.now c.in-Some.name.now c.in-Some.after.now c.closed_law.ensures.closed c.walk.invariant c.in-Some.ensures
    c.in-None-directory_in.ensures

pub walk-preserved : goal.walk-preserved
walk-preserved g c =
    at_step c.args.self.now c.args.tree c.walk.dir c.in-Some-directory_in.child c.args.path.now c.walk.rest.now c.in-Some.name.now c.in-Some.after.now c.closed_law.ensures.closed
    c.walk.invariant c.in-Some.ensures
    c.in-Some-directory_in.ensures
