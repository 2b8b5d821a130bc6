use Rattle.eden_ranges.proofs.Bridge.{heads_are_now, ranges_are_since, ranges_are_the_worlds, refusals_are_the_worlds}
use Rattle.eden_ranges.proofs.laws.range_law.Goals as goal

pub returns-clause-head : goal.returns-clause-head
returns-clause-head c = heads_are_now

pub returns-clause-refused : goal.returns-clause-refused
returns-clause-refused c = refusals_are_the_worlds

pub returns-clause-since : goal.returns-clause-since
returns-clause-since c = ranges_are_since

pub returns-clause-marked : goal.returns-clause-marked
returns-clause-marked c = ranges_are_the_worlds
