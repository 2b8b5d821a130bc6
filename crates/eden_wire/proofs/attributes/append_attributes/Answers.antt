use Rattle.std.proofs.Common.{ℕ, List, ◌++◌, ap, ◌∙◌}
use Rattle.eden_wire.specs.Attributes.{attributes_bytes, attributes_are}
use Rattle.eden_wire.proofs.StatLaws.{spelled_framed}
use Rattle.eden_wire.proofs.Written.{framed, kept_body, small_is}
use Rattle.eden_wire.proofs.attributes.append_attributes.Goals as goal

pub returns-clause-exact : goal.returns-clause-exact
returns-clause-exact c =
    let message = c.args.attributes.now in
    let body = attributes_bytes message in
    let small = small_is body c.in-Some.len c.in-Some.ensures in
    let old = c.args.text.now.items in
    rw (kept_body message.query body small.1) (framed c.put_attributes.result body c.in-Some.len old c.put_bytes.new.out.items c.put_attributes.new.out.items small.0
    (c.in_ok-put_bytes.ensures.told ∙ ap (λ (text : List ℕ). old ++ text) c.to_be_bytes.ensures) c.put_attributes.ensures.told)

pub returns-clause-spelled : goal.returns-clause-spelled
returns-clause-spelled c = λ body spells.
    let message = c.args.attributes.now in
    let small = small_is (attributes_bytes message) c.in-Some.len c.in-Some.ensures in
    let old = c.args.text.now.items in
    spelled_framed 137 attributes_are message message.query body c.put_attributes.result old c.put_attributes.new.out.items spells
    (rw (kept_body message.query (attributes_bytes message) small.1) (framed c.put_attributes.result (attributes_bytes message) c.in-Some.len old c.put_bytes.new.out.items c.put_attributes.new.out.items small.0
    (c.in_ok-put_bytes.ensures.told ∙ ap (λ (text : List ℕ). old ++ text) c.to_be_bytes.ensures) c.put_attributes.ensures.told))
