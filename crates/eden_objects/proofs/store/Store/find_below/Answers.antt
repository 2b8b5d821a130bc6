use Rattle.std.proofs.Common.{◌≡◌, Some, None, ap, sym, ◌∙◌}
use Rattle.eden_objects.specs.Commits.{tree_rows}
use Rattle.eden_git.specs.Directories.{dir_named}
use Rattle.eden_objects.specs.Walks.{then_find}
use Rattle.eden_objects.proofs.WalkSteps.{entries_in, file_here, dir_here, child_here}
use Rattle.eden_objects.proofs.store.Store.find_below.Goals as goal

pub returns-in-None : goal.returns-in-None
returns-in-None g c =
    c.file_in.ensures
    ∙ sym (file_here c.args.self.now c.walk.tree c.walk.rest.now c.closed_law.ensures.closed c.walk.invariant.is_tree c.in-None.ensures)
    ∙ sym c.walk.invariant.answer

pub returns-in-None-directory_in : goal.returns-in-None-directory_in
returns-in-None-directory_in g c =
    let named : dir_named c.in-Some.name.now (entries_in c.args.self.now c.walk.tree) ≡ None =
    sym c.in-None-directory_in.ensures in
    sym
    (c.walk.invariant.answer
    ∙ dir_here c.args.self.now c.walk.tree c.walk.rest.now c.in-Some.name.now c.in-Some.after.now c.closed_law.ensures.closed c.walk.invariant.is_tree c.in-Some.ensures
    ∙ ap (then_find (tree_rows c.args.self.now) c.in-Some.after.now) named)

pub walk-preserved : goal.walk-preserved
walk-preserved g c =
    let named : Some c.in-Some-directory_in.child ≡ dir_named c.in-Some.name.now (entries_in c.args.self.now c.walk.tree) =
    c.in-Some-directory_in.ensures in
    record {
      is_tree = child_here c.args.self.now c.walk.tree c.in-Some.name.now c.in-Some-directory_in.child c.closed_law.ensures.closed c.walk.invariant.is_tree named;
      answer =
          c.walk.invariant.answer
          ∙ dir_here c.args.self.now c.walk.tree c.walk.rest.now c.in-Some.name.now c.in-Some.after.now c.closed_law.ensures.closed c.walk.invariant.is_tree c.in-Some.ensures
          ∙ ap (then_find (tree_rows c.args.self.now) c.in-Some.after.now) (sym named);
    }
