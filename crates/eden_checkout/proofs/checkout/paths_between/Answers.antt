use Rattle.eden_objects.specs.Commits.{commit_map}
use Rattle.eden_workcopy.proofs.Rerooted.{no_memory_else}
use Rattle.eden_checkout.proofs.Planning.{differing, two_differ}
use Rattle.eden_checkout.proofs.checkout.paths_between.Goals as goal

pub unreachable-requires : goal.unreachable-requires
unreachable-requires g c =
    two_differ (commit_map c.args.store.now c.args.root) (commit_map c.args.store.now c.args.target) c.requires.root c.requires.target
    (c.in-Err-NoCommit.ensures.fault (no_memory_else c.in-Err-NoCommit.field-0 c.in-Err-NoCommit.field-0-is))

pub returns-in-Ok : goal.returns-in-Ok
returns-in-Ok g c =
    differing (commit_map c.args.store.now c.args.root) (commit_map c.args.store.now c.args.target) c.in-Ok.paths.items c.in-Ok.ensures.paths
