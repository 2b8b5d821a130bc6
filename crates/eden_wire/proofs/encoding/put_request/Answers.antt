use Rattle.std.proofs.Common.{◌∷◌, ◌++◌}
use Rattle.eden_messages.specs.Spells.{excluded_bytes, filter_bytes, position_bytes, query_bytes, text_bytes}
use Rattle.eden_wire.proofs.Written.{behind}
use Rattle.eden_wire.proofs.encoding.put_request.Goals as goal

pub returns-in_ok-put_included-in-Basis-clause-told : goal.returns-in_ok-put_included-in-Basis-clause-told
returns-in_ok-put_included-in-Basis-clause-told c =
    let basis = c.in-Basis in
    let head = 2 ∷ 1 ∷ query_bytes basis.query in
    let filter = filter_bytes basis.filter.included in
    let new = c.put_included.new.out.items in
    let rest = behind c.put_excluded.new.out.items head filter c.put_head.new.out.items new c.in_ok-put_head-in-Basis.ensures.told c.in_ok-put_included-in-Basis.ensures.told in
    rw basis.is (behind c.args.out.now.items (excluded_bytes basis.filter.excluded) (head ++ filter) c.put_excluded.new.out.items new c.in_ok-put_excluded-in-Basis.ensures.told rest)

pub returns-in_ok-put_included-in-Poll-clause-told : goal.returns-in_ok-put_included-in-Poll-clause-told
returns-in_ok-put_included-in-Poll-clause-told c =
    let poll = c.in-Poll in
    let head = 2 ∷ 2 ∷ query_bytes poll.query in
    let since = position_bytes poll.since in
    let filter = filter_bytes poll.filter.included in
    let new = c.put_included-in-Poll.new.out.items in
    let fields = behind c.put_head-in-Poll.new.out.items since filter c.put_position.new.out.items new c.in_ok-put_position-in-Poll.ensures.told c.in_ok-put_included-in-Poll.ensures.told in
    let rest = behind c.put_excluded-in-Poll.new.out.items head (since ++ filter) c.put_head-in-Poll.new.out.items new c.in_ok-put_head-in-Poll.ensures.told fields in
    rw poll.is (behind c.args.out.now.items (excluded_bytes poll.filter.excluded) (head ++ (since ++ filter)) c.put_excluded-in-Poll.new.out.items new
    c.in_ok-put_excluded-in-Poll.ensures.told rest)

pub returns-in_ok-put_included-in-List-clause-told : goal.returns-in_ok-put_included-in-List-clause-told
returns-in_ok-put_included-in-List-clause-told c =
    let list = c.in-List in
    let head = 2 ∷ 4 ∷ query_bytes list.query in
    let prefix = text_bytes list.prefix in
    let filter = filter_bytes list.filter.included in
    let new = c.put_included-in-List.new.out.items in
    let fields = behind c.put_head-in-List.new.out.items prefix filter c.put_path-in-List.new.out.items new c.in_ok-put_path-in-List.ensures.told c.in_ok-put_included-in-List.ensures.told in
    let rest = behind c.put_excluded-in-List.new.out.items head (prefix ++ filter) c.put_head-in-List.new.out.items new c.in_ok-put_head-in-List.ensures.told fields in
    rw list.is (behind c.args.out.now.items (excluded_bytes list.filter.excluded) (head ++ (prefix ++ filter)) c.put_excluded-in-List.new.out.items new
    c.in_ok-put_excluded-in-List.ensures.told rest)
