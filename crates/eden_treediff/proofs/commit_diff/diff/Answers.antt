use Rattle.std.proofs.Common.{◌≡◌, Some}
use Rattle.eden_objects.specs.Commits.{commit_map}
use Rattle.eden_treediff.specs.Merges.{admitted_differences, differences}
use Rattle.eden_treediff.proofs.Sides.{if_ok, none_left_out}
use Rattle.eden_treediff.proofs.commit_diff.diff.Goals as goal

pub returns-clause-paths : goal.returns-clause-paths
returns-clause-paths g c =
    let held = c.args.store.now in
    if_ok c.diff_admitted.result
    (λ paths. admitted_differences c.all-all.result (commit_map held c.args.first) (commit_map held c.args.second) ≡ Some paths.items)
    (λ paths. differences (commit_map held c.args.first) (commit_map held c.args.second) ≡ Some paths.items)
    (λ paths is. none_left_out c.all-all.result (differences (commit_map held c.args.first) (commit_map held c.args.second)) paths.items c.all-all.ensures is)
    c.diff_admitted.ensures.paths
