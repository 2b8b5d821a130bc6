-- The digits that are there are read with zeros after them.
use Rattle.std.proofs.Common.{◌∙◌, ◌++◌, ◌-◌, sym, ap, refl, length, replicate}
use Rattle.eden_batch.specs.internal.Fields.{id_field}
use Rattle.eden_batch.proofs.Ids.{no_id, no_space, part_of_id, whole_id}
use Rattle.eden_batch.proofs.Lines.{all_behind, front_is}
use Rattle.eden_batch.proofs.fields.read_id.Goals as goal

pub returns-in_default : goal.returns-in_default
returns-in_default c =
    let bytes = c.args.bytes.now in
    let padded = c.padded.ensures ∙ ap (λ front. front ++ replicate (40 - length front) 48) (front_is bytes 40 c.min.result c.min.ensures) in
    no_id bytes c.padded.result padded c.hex_law.ensures c.in_default.field-0 (sym c.in_default.ensures)

pub returns-in_default-get : goal.returns-in_default-get
returns-in_default-get c =
    let bytes = c.args.bytes.now in
    let padded = c.padded.ensures ∙ ap (λ front. front ++ replicate (40 - length front) 48) (front_is bytes 40 c.min.result c.min.ensures) in
    part_of_id bytes c.padded.result padded c.hex_text_law.ensures c.in-Ok.id (sym c.in-Ok.ensures) c.id_law.ensures c.in_default-get.ensures.lookup.3

pub returns-then-space-eq32 : goal.returns-then-space-eq32
returns-then-space-eq32 c =
    let bytes = c.args.bytes.now in
    let padded = c.padded.ensures ∙ ap (λ front. front ++ replicate (40 - length front) 48) (front_is bytes 40 c.min.result c.min.ensures) in
    let there = c.in-Some.ensures.lookup.3 in (
      c.id_law.ensures,
      whole_id bytes c.padded.result padded there.0 c.hex_text_law.ensures c.in-Ok.id (sym c.in-Ok.ensures) (sym (there.1 0) ∙ c.if-space-eq32.true)
          ∙ ap (λ behind. id_field c.in-Ok.id ++ behind) (sym (all_behind bytes 41 41 refl)),
    )

pub returns-else-space-eq32 : goal.returns-else-space-eq32
returns-else-space-eq32 c =
    let bytes = c.args.bytes.now in
    let padded = c.padded.ensures ∙ ap (λ front. front ++ replicate (40 - length front) 48) (front_is bytes 40 c.min.result c.min.ensures) in
    let there = c.in-Some.ensures.lookup.3 in
    no_space bytes c.padded.result padded there.0 (λ e. c.if-space-eq32.false (there.1 0 ∙ e))
