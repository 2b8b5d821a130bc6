use Rattle.std.proofs.Common.{ap, ◌∙◌}
use Rattle.std.proofs.lemmas.Result.{err_from_is_err_and}
use Rattle.eden_objects.specs.Commits.{commit_map}
use Rattle.eden_ids.specs.FileMaps.{path_set, union}
use Rattle.eden_ranges.proofs.Columns.{told_comparable, refused_incomparable}
use Rattle.eden_ranges.proofs.Lists.{path_set-append}
use Rattle.eden_ranges.proofs.Only.{told_differ}
use Rattle.eden_ranges.proofs.expanding.add_differing.Goals as goal

pub returns-in_err-more-clause-fault : goal.returns-in_err-more-clause-fault
returns-in_err-more-clause-fault g c =
    let p = err_from_is_err_and c.from_residual.result c.from_residual.ensures.1 in
    rw (p.1, p.2) (λ other. refused_incomparable (commit_map c.args.store.now) c.args.left c.args.reached c.requires (c.in_err-more.ensures.fault other))

pub returns-clause-paths : goal.returns-clause-paths
returns-clause-paths g c =
    ap path_set c.in_ok-append.ensures.items
    ∙ path_set-append c.make_room.new.paths.items c.in_ok-more.more.items
    ∙ ap (union (path_set c.in_ok-more.more.items)) c.in_ok-make_room.ensures
    ∙ ap (λ paths. union paths (path_set c.args.paths.now.items))
    (told_differ c.args.wanted.now (commit_map c.args.store.now) c.args.left c.args.reached c.in_ok-more.more.items c.in_ok-more.ensures.paths)

pub returns-clause-compared : goal.returns-clause-compared
returns-clause-compared g c =
    told_comparable c.args.wanted.now (commit_map c.args.store.now) c.args.left c.args.reached _ c.in_ok-more.ensures.paths
