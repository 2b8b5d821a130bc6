use Rattle.std.proofs.Common.{◌*◌, ◌/◌, sym, ◌∙◌, arith}
use Rattle.eden_lanes.proofs.Finding.{first_in-found, first_in-whole}
use Rattle.eden_lanes.proofs.find.find_row.Goals as goal

pub returns-in-Some : goal.returns-in-Some
returns-in-Some c =
    let id = c.args.id in
    let ids = c.args.column.now in
    let rows = c.len-rows.result in
    first_in-found (8 * (rows / 8)) rows _ id ids (sym c.find_in_eights.ensures ∙ c.in-Some.is) (omega arith)
    ∙ first_in-whole id ids rows c.len-rows.ensures
