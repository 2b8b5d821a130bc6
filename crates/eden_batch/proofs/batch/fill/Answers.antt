-- The reading ends as the pumping of its objects does.
use Rattle.std.proofs.Common.{◌≡◌, ◌+◌, [], arith, length, refl, subst, sym}
use Rattle.eden_batch.specs.internal.Loads.{Fills}
use Rattle.eden_batch.proofs.Endings.{ends, fills_none, own_end, same_filling}
use Rattle.eden_batch.proofs.Fillings.{same_at_first}
use Rattle.eden_batch.proofs.batch.fill.Goals as goal

pub returns : goal.returns
returns g c =
    let taker = g.I.Importer in
    let filling = c.args.filling.now in
    let filled = c.pump_items-outcome.new.server in
    let outcome = c.pump_items-outcome.result in
    let held = taker.held filling.into.now in
    let none = subst (λ ids. Fills taker.name held held ids ids []) (sym c.requires) (fills_none taker.name held) in
    let ended = c.pump_items-outcome.ensures.ends filling (same_at_first taker.name taker.held taker.over taker.laws filling, none) in
    let same = same_filling taker.name taker.held taker.over _ _ _ _ filling filled outcome ended in
    let next : c.len.result + 1 ≡ length filled.ids.now.items + 1 = omega (arith, c.len.ensures) in
    let result = c.read_outcome.result in
    let is = c.read_outcome.ensures in
    record {
      ends = ends taker.name taker.held taker.over _ _ _ _ filling filled _ refl c.requires (c.len.result + 1) next outcome result is ended;
      only = same.only;
      same_importer = same.into;
      same_list = same.ids;
      read = λ number e. c.pump_items-outcome.ensures.read ((own_end (c.len.result + 1) number outcome result is).read e);
      turns_spent = λ number e. c.pump_items-outcome.ensures.turns_spent ((own_end (c.len.result + 1) number outcome result is).turns_spent e);
      turns = c.pump_items-outcome.ensures.turns;
    }
