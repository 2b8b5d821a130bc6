use Rattle.std.proofs.Common.{◌≡◌, ◌≢◌, ◌++◌, ◌+◌, ap, sym, ◌∙◌, refl, length, take, drop, arith}
use Rattle.std.proofs.lemmas.Bool.{eqb-false, eqb-true}
use Rattle.std.proofs.lemmas.List.{length-take, nil_from_length}
use Rattle.eden_batch.specs.internal.Fields.{size_field}
use Rattle.eden_batch.proofs.Lines.{all_behind, front_is, line_cut, line_unbroken, unbroken}
use Rattle.eden_batch.proofs.Sizes.{is_size, no_part, no_size, none_is_part, number_is_part}
use Rattle.eden_batch.proofs.fields.read_size.Goals as goal

pub returns-in-Some-number : goal.returns-in-Some-number
returns-in-Some-number c =
    let bytes = c.args.bytes.now in
    let front = take c.min.result bytes in
    let end = c.in-Some.end in
    let found = c.in-Some.ensures in
    let cut = line_cut front end found.0.high bytes 21 (front_is bytes 21 c.min.result c.min.ensures) found.1 in
    let is = is_size bytes (take end front) (drop (end + 1) bytes) c.in-Some-number.size cut (sym c.in-Some-number.ensures) in
    (is.0, is.1 ∙ ap (λ l. size_field c.in-Some-number.size ++ l) (sym (all_behind bytes (end + 1) (end + 1) refl)))

pub returns-in-None-number : goal.returns-in-None-number
returns-in-None-number c =
    let bytes = c.args.bytes.now in
    let front = take c.min.result bytes in
    let end = c.in-Some.end in
    let found = c.in-Some.ensures in
    let cut = line_cut front end found.0.high bytes 21 (front_is bytes 21 c.min.result c.min.ensures) found.1 in
    no_size bytes (take end front) (drop (end + 1) bytes) (line_unbroken front end found.0.high found.0.before) cut (sym c.in-None-number.ensures)

pub returns-in-Some-number-2 : goal.returns-in-Some-number-2
returns-in-Some-number-2 c =
    let bytes = c.args.bytes.now in
    number_is_part bytes (take c.min.result bytes) c.in-Some-number-2.field-0 (front_is bytes 21 c.min.result c.min.ensures) (sym c.in-Some-number-2.ensures)

pub returns-in-None-number-2 : goal.returns-in-None-number-2
returns-in-None-number-2 c =
    let bytes = c.args.bytes.now in
    let empty : length (take c.min.result bytes) ≡ 0 = eqb-true (length (take c.min.result bytes)) 0 (sym c.is_empty.ensures ∙ c.if-is_empty.true) in
    none_is_part bytes (nil_from_length bytes (omega (arith, empty, length-take c.min.result bytes, c.min.ensures)))

pub returns-in-None-2 : goal.returns-in-None-2
returns-in-None-2 c =
    let bytes = c.args.bytes.now in
    let front = take c.min.result bytes in
    let some : length front ≢ 0 = eqb-false (length front) 0 (sym c.is_empty.ensures ∙ c.if-is_empty.false) in
    no_part bytes front (front_is bytes 21 c.min.result c.min.ensures) (unbroken front c.in-None.ensures) (omega (arith, some)) (sym c.in-None-2.ensures)
