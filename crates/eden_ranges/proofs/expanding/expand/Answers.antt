use Rattle.eden_ranges.specs.Expanded.{expanded}
use Rattle.eden_ranges.proofs.Only.{none_left_out}
use Rattle.eden_ranges.proofs.expanding.expand.Goals as goal

pub returns-clause-marked : goal.returns-clause-marked
returns-clause-marked g c = none_left_out c.all-all.result (expanded c.args.store.now c.args.range.now) c.expand_admitted.result c.all-all.ensures c.expand_admitted.ensures.marked
