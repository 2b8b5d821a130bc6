use Rattle.std.proofs.Common.{◌++◌, ◌∷◌, [], Some, false, subst}
use Rattle.eden_objects.specs.Commits.{tree_rows}
use Rattle.eden_objects.specs.internal.Below.{IsBelow}
use Rattle.eden_objects.proofs.Legal.{below_paths, paths_but}
use Rattle.eden_objects.proofs.store.Store.list_directory.Goals as goal

pub gather_below-requires-clause-paths : goal.gather_below-requires-clause-paths
gather_below-requires-clause-paths g c =
    paths_but (λ path. false) (c.args.path.now ++ 47 ∷ []) (tree_rows c.args.self.now c.in-Some.dir)
    (below_paths c.args.self.now c.args.tree c.args.path.now c.in-Some.dir c.closed_law.ensures.closed c.requires
    (subst (λ path. IsBelow c.args.self.now c.args.tree path (Some c.in-Some.dir)) c.as_bytes.ensures.bytes c.in-Some.ensures))
