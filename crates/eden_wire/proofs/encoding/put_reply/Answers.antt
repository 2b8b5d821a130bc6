use Rattle.std.proofs.Common.{◌∷◌, ◌++◌, arith, ap, length}
use Rattle.eden_messages.specs.Spells.{cause_bytes, content_bytes, list_bytes, paths_bytes, position_bytes, query_bytes, reply_bytes, text_bytes}
use Rattle.eden_wire.proofs.Lists.{list_few, prefixes_few, paths_few, below_few, content_few}
use Rattle.eden_wire.proofs.Written.{behind}
use Rattle.eden_wire.proofs.encoding.put_reply.Goals as goal

pub put_list-requires : goal.put_list-requires
put_list-requires c =
    let is = ap (λ r. length (reply_bytes r)) c.in-ChangesAre.is in
    rw c.as_slice-in-ChangesAre.ensures (list_few c.in-ChangesAre.query c.in-ChangesAre.target c.in-ChangesAre.marked c.in-ChangesAre.prefixes (omega (arith, c.requires, is)))

pub put_paths-requires : goal.put_paths-requires
put_paths-requires c =
    let is = ap (λ r. length (reply_bytes r)) c.in-BasisIs.is in
    rw c.as_slice.ensures (paths_few c.in-BasisIs.query c.in-BasisIs.position c.in-BasisIs.paths (omega (arith, c.requires, is)))

pub put_paths-requires-in-ChangesAre : goal.put_paths-requires-in-ChangesAre
put_paths-requires-in-ChangesAre c =
    let is = ap (λ r. length (reply_bytes r)) c.in-ChangesAre.is in
    rw c.as_slice-in-ChangesAre-2.ensures (prefixes_few c.in-ChangesAre.query c.in-ChangesAre.target c.in-ChangesAre.marked c.in-ChangesAre.prefixes (omega (arith, c.requires, is)))

pub put_paths-requires-in-ListIs : goal.put_paths-requires-in-ListIs
put_paths-requires-in-ListIs c =
    let is = ap (λ r. length (reply_bytes r)) c.in-ListIs.is in
    rw c.as_slice-in-ListIs.ensures (below_few c.in-ListIs.query c.in-ListIs.position c.in-ListIs.prefix c.in-ListIs.paths (omega (arith, c.requires, is)))

pub put_content-requires : goal.put_content-requires
put_content-requires c =
    let is = ap (λ r. length (reply_bytes r)) c.in-ContentIs.is in
    content_few c.in-ContentIs.query c.in-ContentIs.position c.in-ContentIs.path c.in-ContentIs.content (omega (arith, c.requires, is))

pub returns-in_ok-put_paths-in-BasisIs-clause-told : goal.returns-in_ok-put_paths-in-BasisIs-clause-told
returns-in_ok-put_paths-in-BasisIs-clause-told c =
    let reply = c.in-BasisIs in
    let place = position_bytes reply.position in
    let last = paths_bytes reply.paths in
    let new = c.put_paths.new.out.items in
    let told = rw c.as_slice.ensures at c.in_ok-put_paths-in-BasisIs.ensures.told in
    let rest = behind c.put_head.new.out.items place last c.put_position.new.out.items new c.in_ok-put_position-in-BasisIs.ensures.told told in
    rw reply.is (behind c.args.out.now.items (2 ∷ 129 ∷ query_bytes reply.query) (place ++ last) c.put_head.new.out.items new c.in_ok-put_head-in-BasisIs.ensures.told rest)

pub returns-in_ok-put_paths-in-ChangesAre-clause-told : goal.returns-in_ok-put_paths-in-ChangesAre-clause-told
returns-in_ok-put_paths-in-ChangesAre-clause-told c =
    let reply = c.in-ChangesAre in
    let place = position_bytes reply.target in
    let list = list_bytes reply.marked in
    let prefixes = paths_bytes reply.prefixes in
    let new = c.put_paths-in-ChangesAre.new.out.items in
    let marked_told = rw c.as_slice-in-ChangesAre.ensures at c.in_ok-put_list-in-ChangesAre.ensures.told in
    let prefixes_told = rw c.as_slice-in-ChangesAre-2.ensures at c.in_ok-put_paths-in-ChangesAre.ensures.told in
    let told = behind c.put_position-in-ChangesAre.new.out.items list prefixes c.put_list.new.out.items new marked_told prefixes_told in
    let rest = behind c.put_head-in-ChangesAre.new.out.items place (list ++ prefixes) c.put_position-in-ChangesAre.new.out.items new c.in_ok-put_position-in-ChangesAre.ensures.told told in
    rw reply.is (behind c.args.out.now.items (2 ∷ 130 ∷ query_bytes reply.query) (place ++ (list ++ prefixes)) c.put_head-in-ChangesAre.new.out.items new c.in_ok-put_head-in-ChangesAre.ensures.told rest)

pub returns-in_ok-put_content-in-ContentIs-clause-told : goal.returns-in_ok-put_content-in-ContentIs-clause-told
returns-in_ok-put_content-in-ContentIs-clause-told c =
    let reply = c.in-ContentIs in
    let place = position_bytes reply.position in
    let last = text_bytes reply.path ++ content_bytes reply.content in
    let new = c.put_content.new.out.items in
    let told = behind c.put_position-in-ContentIs.new.out.items (text_bytes reply.path) (content_bytes reply.content) c.put_path.new.out.items new
    c.in_ok-put_path-in-ContentIs.ensures.told c.in_ok-put_content-in-ContentIs.ensures.told in
    let rest = behind c.put_head-in-ContentIs.new.out.items place last c.put_position-in-ContentIs.new.out.items new c.in_ok-put_position-in-ContentIs.ensures.told told in
    rw reply.is (behind c.args.out.now.items (2 ∷ 131 ∷ query_bytes reply.query) (place ++ last) c.put_head-in-ContentIs.new.out.items new c.in_ok-put_head-in-ContentIs.ensures.told rest)

pub returns-in_ok-put_cause-in-Refused-clause-told : goal.returns-in_ok-put_cause-in-Refused-clause-told
returns-in_ok-put_cause-in-Refused-clause-told c =
    let reply = c.in-Refused in
    rw reply.is (behind c.args.out.now.items (2 ∷ 132 ∷ query_bytes reply.query) (cause_bytes reply.cause) c.put_head-in-Refused.new.out.items c.put_cause.new.out.items
    c.in_ok-put_head-in-Refused.ensures.told c.in_ok-put_cause-in-Refused.ensures.told)

pub returns-in_ok-put_paths-in-ListIs-clause-told : goal.returns-in_ok-put_paths-in-ListIs-clause-told
returns-in_ok-put_paths-in-ListIs-clause-told c =
    let reply = c.in-ListIs in
    let place = position_bytes reply.position in
    let last = text_bytes reply.prefix ++ paths_bytes reply.paths in
    let new = c.put_paths-in-ListIs.new.out.items in
    let paths_told = rw c.as_slice-in-ListIs.ensures at c.in_ok-put_paths-in-ListIs.ensures.told in
    let told = behind c.put_position-in-ListIs.new.out.items (text_bytes reply.prefix) (paths_bytes reply.paths) c.put_path-in-ListIs.new.out.items new
    c.in_ok-put_path-in-ListIs.ensures.told paths_told in
    let rest = behind c.put_head-in-ListIs.new.out.items place last c.put_position-in-ListIs.new.out.items new c.in_ok-put_position-in-ListIs.ensures.told told in
    rw reply.is (behind c.args.out.now.items (2 ∷ 133 ∷ query_bytes reply.query) (place ++ last) c.put_head-in-ListIs.new.out.items new c.in_ok-put_head-in-ListIs.ensures.told rest)
