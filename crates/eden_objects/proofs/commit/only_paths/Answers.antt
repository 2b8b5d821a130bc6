use Rattle.std.proofs.Common.{arith}
use Rattle.std.specs.Vec.Iter.{into_iter_items}
use Rattle.eden_objects.proofs.Searched.{no_path, one_path}
use Rattle.eden_objects.proofs.commit.only_paths.Goals as goal

pub loop-row-preserved : goal.loop-row-preserved
loop-row-preserved c =
    one_path c.loop-row.list.items c.push.new.self.items c.in-Some.row (into_iter_items c.next.new.self) (into_iter_items c.loop-row.row-iterator) c.args.rows.items
    c.in-Some.ensures.steps.0 c.in_ok-push.ensures.items c.loop-row.invariant

pub returns : goal.returns
returns c =
    no_path c.loop-row.list.items (into_iter_items c.loop-row.row-iterator) c.args.rows.items
    (omega (arith, c.loop-row.row-iterator.rest.ok, c.in-None.ensures.steps.0)) c.loop-row.invariant
