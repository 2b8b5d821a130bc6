use Rattle.eden_globs.specs.Filters.{admits}
use Rattle.eden_treediff.specs.Merges.{merge_rows}
use Rattle.eden_treediff.specs.internal.Walks.{side_rows}
use Rattle.eden_treediff.proofs.Legal.{top_legal}
use Rattle.eden_treediff.proofs.Sides.{all_found}
use Rattle.eden_treediff.proofs.commit_diff.paths_between.Goals as goal

pub returns : goal.returns
returns g c =
    all_found (admits c.args.filter.now) c.new.result c.new-2.result.items (merge_rows (side_rows c.args.store.now c.args.first) (side_rows c.args.store.now c.args.second)) c.walk.new.found.paths.items
    c.new.ensures c.new-2.ensures.items c.in_ok-walk.ensures.paths

pub walk-requires-clause-first_paths : goal.walk-requires-clause-first_paths
walk-requires-clause-first_paths g c = top_legal c.args.store.now c.args.first c.new.result c.closed_law.ensures.closed c.requires.first c.new.ensures

pub walk-requires-clause-second_paths : goal.walk-requires-clause-second_paths
walk-requires-clause-second_paths g c = top_legal c.args.store.now c.args.second c.new.result c.closed_law.ensures.closed c.requires.second c.new.ensures
