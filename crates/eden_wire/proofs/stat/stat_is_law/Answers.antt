use Rattle.eden_wire.proofs.Same.{path_from, position_from, query_from}
use Rattle.eden_wire.proofs.stat.stat_is_law.Goals as goal

pub returns : goal.returns
returns c =
    let stat = c.args.stat.now in (
      query_from stat.query c.query_law.ensures,
      (position_from stat.position c.position_law.ensures, (path_from stat.path c.path_law.ensures, c.found_law.ensures)),
    )
