use Rattle.std.proofs.Common.{◌∷◌, []}
use Rattle.eden_messages.specs.Spells.{query_bytes}
use Rattle.eden_wire.proofs.Written.{behind}
use Rattle.eden_wire.proofs.encoding.put_head.Goals as goal

pub returns-clause-told : goal.returns-clause-told
returns-clause-told c =
    let query = query_bytes c.args.query.now in
    let new = c.put_query.new.out.items in
    let rest = behind c.put_u8.new.self.items (c.args.tag ∷ []) query c.put_u8-2.new.self.items new c.in_ok-put_u8-2.ensures.ok c.in_ok-put_query.ensures.told in
    behind c.args.out.now.items (2 ∷ []) (c.args.tag ∷ query) c.put_u8.new.self.items new c.in_ok-put_u8.ensures.ok rest
