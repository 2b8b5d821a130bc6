use Rattle.std.proofs.Common.{◌≡◌, ◌++◌, length, drop, sym, ap, ◌∙◌, arith}
use Rattle.std.proofs.lemmas.Bool.Decides.{Decides-eqb}
use Rattle.std.proofs.lemmas.List.{nil_from_length}
use Rattle.std.proofs.lemmas.Slice.Eq.{starts_is, strip_prefix_is}
use Rattle.eden_git.specs.declared.object_type.ObjectType.TheVariants.{Blob}
use Rattle.eden_batch.specs.internal.Fields.{type_field}
use Rattle.eden_batch.proofs.Types.{part_of_type}
use Rattle.eden_batch.proofs.fields.read_type.Goals as goal

pub returns-in_default : goal.returns-in_default
returns-in_default c =
    (Blob, type_field Blob, tt, omega arith, ap (λ l. l ++ type_field Blob) (nil_from_length c.args.bytes.now (omega (arith, c.in_default.len_below))))

pub returns-then-starts_with : goal.returns-then-starts_with
returns-then-starts_with c =
    let bytes = c.args.bytes.now in
    let field = c.type_field-field.result.now in
    let starts : field ≡ bytes ++ drop (length bytes) field =
    (starts_is Decides-eqb field bytes c.starts_with.result c.starts_with.ensures.value).0 c.if-starts_with.true in
    let other = strip_prefix_is Decides-eqb bytes field c.strip_prefix.result c.strip_prefix.ensures.cases in
    let none = rw c.in_default-strip_prefix.is at other in
    (c.in-Some.object_type, drop (length bytes) field, tt, part_of_type bytes field starts none, sym starts ∙ c.type_field-field.ensures)
