use Rattle.std.proofs.Common.{rules, ◌≡◌, Some, false}
use Rattle.eden_objects.specs.Objects.{find, zero_id}
use Rattle.eden_ids.specs.Sameness.{same_id}
use Rattle.eden_objects.specs.Puts.{named}
use Rattle.eden_objects.specs.Contents.{held_of, type_of}
use Rattle.eden_objects.specs.Payloads.{payload_bytes}
use Rattle.eden_objects.proofs.Putting.{standing}
use Rattle.eden_objects.proofs.store.Store.put.Goals as goal

pub returns-in-Some : goal.returns-in-Some
returns-in-Some g c =
    let called : (named g.N.Naming.id (type_of c.args.body) (payload_bytes c.args.payload)).id ≡ c.id_of-id.result = search rules in
    let zero : same_id c.id_of-id.result zero_id ≡ false = search rules in
    let found : find c.id_of-id.result c.args.self.now ≡ Some (held_of c.id_of-id.result c.in-Some.held.now) = search rules in
    rw (c.id_or_taken.ensures, c.object_type-object_type.ensures, c.as_slice-bytes.ensures)
    (standing (named g.N.Naming.id (type_of c.args.body) (payload_bytes c.args.payload)) c.args.self.now c.id_of-id.result c.in-Some.held.now called zero found)

pub add-requires-clause-small : goal.add-requires-clause-small
add-requires-clause-small g c =
    let same : c.in_ok-payload.payload ≡ payload_bytes c.args.payload = c.in_ok-payload.ensures in
    record { few = rw same c.requires.small; bytes = rw (same, ← c.as_slice-bytes.ensures) c.bytes_law.ensures }
