use Rattle.std.proofs.Common.{◌∷◌, ◌++◌}
use Rattle.eden_messages.specs.Spells.{list_bytes, position_bytes, query_bytes}
use Rattle.eden_wire.proofs.Written.{after}
use Rattle.eden_wire.proofs.status.put_status.Goals as goal

pub returns-clause-told : goal.returns-clause-told
returns-clause-told c =
    let status = c.args.status.now in
    let place = position_bytes status.position in
    let list = list_bytes status.marked in
    let new = c.put_list.new.out.items in
    let told = rw c.as_slice.ensures at c.put_list.ensures.told in
    after c.put_list.result c.args.out.now.items (2 ∷ 138 ∷ query_bytes status.query) (place ++ list) c.put_head.new.out.items new c.in_ok-put_head.ensures.told
    (after c.put_list.result c.put_head.new.out.items place list c.put_position.new.out.items new c.in_ok-put_position.ensures.told told)
