use Rattle.std.proofs.Common.{◌∷◌, ◌++◌, length}
use Rattle.std.specs.Int.{w32, to_be_bytes}
use Rattle.std.specs.List.{flat_map}
use Rattle.eden_messages.specs.Spells.{position_bytes, query_bytes}
use Rattle.eden_wire.specs.Attributes.{described_bytes}
use Rattle.eden_wire.specs.Formats.{optional}
use Rattle.eden_wire.specs.Messages.{path}
use Rattle.eden_wire.proofs.Written.{after}
use Rattle.eden_wire.proofs.attributes.put_attributes.Goals as goal

pub returns-clause-told : goal.returns-clause-told
returns-clause-told c =
    let attributes = c.args.attributes.now in
    let place = position_bytes attributes.position in
    let prefix = (optional path).spell attributes.prefix in
    let files = to_be_bytes w32 (length attributes.files) ++ flat_map described_bytes attributes.files in
    let result = c.put_files.result in
    let new = c.put_files.new.out.items in
    let told = rw c.as_slice.ensures at c.put_files.ensures.told in
    after result c.args.out.now.items (2 ∷ 137 ∷ query_bytes attributes.query) (place ++ (prefix ++ files)) c.put_head.new.out.items new c.in_ok-put_head.ensures.told
    (after result c.put_head.new.out.items place (prefix ++ files) c.put_position.new.out.items new c.in_ok-put_position.ensures.told
    (after result c.put_position.new.out.items prefix files c.put_prefix.new.out.items new c.in_ok-put_prefix.ensures.told told))
