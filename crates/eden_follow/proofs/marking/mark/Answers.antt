use Rattle.eden_follow.proofs.Marked.{all_done, none_done, set_done, set_left, set_rows}
use Rattle.std.proofs.Common.{◌<◌, length, refl, arith}
use Rattle.eden_follow.proofs.marking.mark.Goals as goal

pub loop-at-preserved : goal.loop-at-preserved
loop-at-preserved c =
    let within : c.loop-at.at < length c.loop-at.rows = omega (arith, c.loop-at.auto.rows, c.requires.bound) in
    record {
      rows = set_rows c.args.request.now c.args.rows.now c.loop-at.rows c.loop-at.at c.index-rows-at.result c.mark_row.new.row within c.loop-at.auto.rows
          c.mark_row.ensures.row c.mark_row.ensures.marked c.loop-at.invariant.rows;
      done = set_done c.args.request.now c.args.rows.now c.loop-at.rows c.loop-at.at c.index-rows-at.result c.mark_row.new.row within c.loop-at.auto.rows
          c.mark_row.ensures.row c.mark_row.ensures.marked c.loop-at.invariant.left c.loop-at.invariant.done;
      left = set_left c.args.request.now c.args.rows.now c.loop-at.rows c.loop-at.at c.index-rows-at.result c.mark_row.new.row within c.loop-at.auto.rows
          c.mark_row.ensures.row c.mark_row.ensures.marked c.loop-at.invariant.left;
    }

pub loop-at-init : goal.loop-at-init
loop-at-init c =
    record {
      rows = refl;
      done = none_done c.args.request.now c.args.rows.now c.args.start c.args.end c.requires;
      left = λ k d h lt. refl;
    }

pub returns-clause-marked : goal.returns-clause-marked
returns-clause-marked c =
    all_done c.args.request.now c.args.rows.now c.args.start c.args.end c.requires c.loop-at.rows c.loop-at.at (omega arith) c.loop-at.auto.rows c.loop-at.invariant.done c.loop-at.invariant.left
