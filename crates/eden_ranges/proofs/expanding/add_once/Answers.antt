use Rattle.std.proofs.Common.{◌≡◌, rules, true, sym}
use Rattle.eden_ids.specs.FileMaps.{path_set}
use Rattle.eden_ids.specs.Sameness.{same_id}
use Rattle.eden_objects.specs.Commits.{commit_map}
use Rattle.eden_ranges.proofs.Columns.{same_root}
use Rattle.eden_ranges.proofs.Pairs.{both_hold, covered_again, covered_more}
use Rattle.eden_ranges.proofs.expanding.add_once.Goals as goal

pub returns-then-eq-clause-paths : goal.returns-then-eq-clause-paths
returns-then-eq-clause-paths g c = λ known.
    let e : same_id c.args.left c.args.reached ≡ true = search rules in
    same_root c.args.wanted.now (commit_map c.args.store.now) c.args.left c.args.reached (path_set c.args.paths.now.items) e

pub returns-then-not-branch-clause-paths : goal.returns-then-not-branch-clause-paths
returns-then-not-branch-clause-paths g c = λ known.
    sym (covered_again c.args.wanted.now (commit_map c.args.store.now) c.args.compared.now.keys (path_set c.args.paths.now.items) c.args.left c.args.reached known
    (c.in_ok-note_pair.ensures.again c.if-not-branch.true).0).among

pub returns-then-not-branch-clause-compared : goal.returns-then-not-branch-clause-compared
returns-then-not-branch-clause-compared g c = λ known.
    (covered_again c.args.wanted.now (commit_map c.args.store.now) c.args.compared.now.keys (path_set c.args.paths.now.items) c.args.left c.args.reached known
    (c.in_ok-note_pair.ensures.again c.if-not-branch.true).0).comparable

pub returns-clause-covered : goal.returns-clause-covered
returns-clause-covered g c = λ known.
    both_hold c.add_differing.result c.add_differing.ensures.paths c.add_differing.ensures.compared
    (λ more comparable. covered_more c.args.wanted.now (commit_map c.args.store.now) c.args.compared.now.keys c.note_pair.new.pairs.keys
    (path_set c.args.paths.now.items) (path_set c.add_differing.new.paths.items) c.args.left c.args.reached known
    (c.in_ok-note_pair.ensures.first c.if-not-branch.false) more comparable)
