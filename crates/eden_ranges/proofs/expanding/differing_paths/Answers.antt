use Rattle.std.proofs.Common.{◌≡◌, ◌-◌, ◌+◌, rules, map, Some, None, ap, subst, sym, ◌∙◌, arith}
use Rattle.std.specs.List.{slice_get}
use Rattle.std.proofs.lemmas.Result.{err_from_is_err_and}
use Rattle.eden_ids.specs.FileMaps.{path_set}
use Rattle.eden_objects.specs.Commits.{commit_map}
use Rattle.eden_history.specs.Said.{by_root}
use Rattle.eden_ranges.specs.internal.Mentions.{Ascend}
use Rattle.eden_ranges.proofs.Columns.{Compared, never_past, comparing_begins, comparing_goes_on, comparing_ends, comparing_fails, comparing_none}
use Rattle.eden_ranges.proofs.Pairs.{covered_none}
use Rattle.eden_ranges.proofs.expanding.differing_paths.Goals.{else-loop-place-test, then-loop-place-test+in_default, then-loop-place-test+in-Some+in_default-get}
use Rattle.eden_ranges.proofs.expanding.differing_paths.Goals as goal

pub loop-place-init : goal.loop-place-init
loop-place-init g c =
    let n = c.len-place.ensures in (
      comparing_begins c.args.wanted.now (commit_map c.args.store.now) c.args.roots.now _ _ (omega arith) (ap path_set c.new-paths.ensures.items),
      covered_none c.args.wanted.now (commit_map c.args.store.now) c.new-pairs.result.keys (path_set c.new-paths.result.items) c.new-pairs.ensures.empty,
    )

pub loop-place-preserved : goal.loop-place-preserved
loop-place-preserved g c =
    let at : slice_get c.args.roots.now (c.loop-place.place - 1) ≡ Some c.in-Some.left = sym c.in-Some.ensures in
    let next : slice_get c.args.roots.now (c.loop-place.place - 1 + 1) ≡ Some c.in-Some-get.reached = sym c.in-Some-get.ensures in
    let here : c.loop-place.place ≡ c.loop-place.place - 1 + 1 = omega arith in
    let known = c.loop-place.invariant.1 in (
      comparing_goes_on c.args.wanted.now (commit_map c.args.store.now) c.args.roots.now (c.loop-place.place - 1) c.in-Some.left c.in-Some-get.reached (path_set c.loop-place.paths.items) _ at next
          (c.in_ok-add_once.ensures.paths known) (c.in_ok-add_once.ensures.compared known)
          (subst (λ place. Compared c.args.wanted.now (commit_map c.args.store.now) c.args.roots.now place (path_set c.loop-place.paths.items)) here c.loop-place.invariant.0),
      c.in_ok-add_once.ensures.covered known,
    )

pub returns-in_err-add_once-clause-fault : goal.returns-in_err-add_once-clause-fault
returns-in_err-add_once-clause-fault g c =
    let at : slice_get c.args.roots.now (c.loop-place.place - 1) ≡ Some c.in-Some.left = sym c.in-Some.ensures in
    let next : slice_get c.args.roots.now (c.loop-place.place - 1 + 1) ≡ Some c.in-Some-get.reached = sym c.in-Some-get.ensures in
    let p = err_from_is_err_and c.from_residual.result c.from_residual.ensures.1 in
    rw (p.1, p.2) (λ other. comparing_fails (commit_map c.args.store.now) c.args.roots.now (c.loop-place.place - 1) c.in-Some.left c.in-Some-get.reached at next (c.in_err-add_once.ensures.fault other))

pub returns-clause-paths : goal.returns-clause-paths
returns-clause-paths g c = c.in_ok-put_in_order.ensures.same ∙ elim c.loop-place-test.branch [
  | else-loop-place-test w ↦ (comparing_ends c.args.wanted.now (commit_map c.args.store.now) c.args.roots.now c.loop-place.place (path_set c.loop-place.paths.items) (omega arith) c.loop-place.invariant.0).0
  | then-loop-place-test+in_default w ↦
      let none : slice_get c.args.roots.now (c.loop-place.place - 1) ≡ None = search rules in
      absurd (never_past c.args.roots.now (c.loop-place.place - 1) (let lt = c.loop-place.invariant.0.0 in omega arith) none)
  | then-loop-place-test+in-Some+in_default-get w ↦
      let none : slice_get c.args.roots.now (c.loop-place.place - 1 + 1) ≡ None = search rules in
      absurd (never_past c.args.roots.now (c.loop-place.place - 1 + 1) (let lt = c.loop-place.invariant.0.0 in omega arith) none)
]

pub returns-clause-compared : goal.returns-clause-compared
returns-clause-compared g c = elim c.loop-place-test.branch [
  | else-loop-place-test w ↦ (comparing_ends c.args.wanted.now (commit_map c.args.store.now) c.args.roots.now c.loop-place.place (path_set c.loop-place.paths.items) (omega arith) c.loop-place.invariant.0).1
  | then-loop-place-test+in_default w ↦
      let none : slice_get c.args.roots.now (c.loop-place.place - 1) ≡ None = search rules in
      absurd (never_past c.args.roots.now (c.loop-place.place - 1) (let lt = c.loop-place.invariant.0.0 in omega arith) none)
  | then-loop-place-test+in-Some+in_default-get w ↦
      let none : slice_get c.args.roots.now (c.loop-place.place - 1 + 1) ≡ None = search rules in
      absurd (never_past c.args.roots.now (c.loop-place.place - 1 + 1) (let lt = c.loop-place.invariant.0.0 in omega arith) none)
]

pub returns-then-place-eq0-clause-paths : goal.returns-then-place-eq0-clause-paths
returns-then-place-eq0-clause-paths g c =
    let n = c.len-place.ensures in
    comparing_none c.args.wanted.now (commit_map c.args.store.now) c.args.roots.now _ (omega arith) (ap path_set c.new-paths.ensures.items)

pub returns-then-place-eq0-clause-ascend : goal.returns-then-place-eq0-clause-ascend
returns-then-place-eq0-clause-ascend g c = subst (λ ps. Ascend (map by_root ps)) (sym c.new-paths.ensures.items) tt
