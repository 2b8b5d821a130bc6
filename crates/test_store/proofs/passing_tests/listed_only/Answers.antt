-- What is told and is not passed over is told at the one path, which is legal.
use Rattle.std.proofs.Common.{arith, ◌≡◌}
use Rattle.std.specs.Cmp.Lexicographic.{same_text}
use Rattle.eden_objects.specs.Passing.{told}
use Rattle.test_store.proofs.passing_tests.listed_only.Goals as goal

pub list_seen-requires : goal.list_seen-requires
list_seen-requires c = λ path below there shown.
    let same : told c.as_bytes.result.now c.args.seen.now path ≡ c.args.path = same_text _ _ (grind arith) in
    rw same c.as_bytes-legal.ensures.legal
