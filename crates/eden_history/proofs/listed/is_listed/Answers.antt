use Rattle.std.proofs.Common.{rules, of_calls, arith, ◌≡◌, ◌≤◌, ◌∙◌, false, length, nat_lt, sym, ap}
use Rattle.std.proofs.lemmas.Fn.{always_returns_same}
use Rattle.std.specs.Ordering.{is_lt}
use Rattle.eden_ids.specs.Sameness.{same_bytes}
use Rattle.eden_ids.proofs.ByteOrder.{order}
use Rattle.eden_history.proofs.SortedPaths.{listed_nowhere, listed_there, paths_parted}
use Rattle.eden_history.proofs.listed.is_listed.Goals as goal

pub returns-then-at-paths : goal.returns-then-at-paths
returns-then-at-paths c =
    let path = c.args.path.now in
    let keyed = always_returns_same _ _ _ (λ a r f k. search (rules, of_calls)) in
    let place = c.partition_point-at.ensures.partitioned (λ p. is_lt (order p path)) keyed (paths_parted path c.args.paths.now c.requires) in
    c.eq.ensures ∙ ap (λ p. same_bytes p path) c.as_bytes.ensures.bytes
    ∙ listed_there path c.args.paths.now c.partition_point-at.result c.index-paths-at.result c.requires place c.if-at-paths.true c.index-paths-at.is

pub returns-else-at-paths : goal.returns-else-at-paths
returns-else-at-paths c =
    let path = c.args.path.now in
    let no : nat_lt c.partition_point-at.result (length c.args.paths.now) ≡ false = grind arith in
    let behind : length c.args.paths.now ≤ c.partition_point-at.result = omega arith in
    let keyed = always_returns_same _ _ _ (λ a r f k. search (rules, of_calls)) in
    let place = c.partition_point-at.ensures.partitioned (λ p. is_lt (order p path)) keyed (paths_parted path c.args.paths.now c.requires) in
    no ∙ sym (listed_nowhere path c.args.paths.now c.partition_point-at.result place behind)
