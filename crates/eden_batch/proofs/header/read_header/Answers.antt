use Rattle.std.proofs.lemmas.Result.{err_from_is_err_and}
use Rattle.eden_batch.proofs.Headers.{lacks_id, lacks_size, lacks_type, whole_header}
use Rattle.eden_batch.proofs.header.read_header.Goals as goal

pub returns-in_err-id : goal.returns-in_err-id
returns-in_err-id c =
    let p = err_from_is_err_and c.from_residual.result c.from_residual.ensures.1 in
    rw (p.1, p.2) (lacks_id c.args.bytes.now c.in_err-id.field-0.0 c.in_err-id.ensures)

pub returns-in_err-object_type : goal.returns-in_err-object_type
returns-in_err-object_type c =
    let p = err_from_is_err_and c.from_residual-in_err-object_type.result c.from_residual-in_err-object_type.ensures.1 in
    let id = c.in_ok-id.ensures in
    rw (p.1, p.2) (lacks_type c.args.bytes.now c.in_ok-id.behind.now c.in_ok-id.id id.0 id.1 c.in_err-object_type.field-0.0 c.in_err-object_type.ensures)

pub returns-in_err-size : goal.returns-in_err-size
returns-in_err-size c =
    let p = err_from_is_err_and c.from_residual-in_err-size.result c.from_residual-in_err-size.ensures.1 in
    let id = c.in_ok-id.ensures in
    let object_type = c.in_ok-object_type.ensures in
    rw (p.1, p.2) (lacks_size c.args.bytes.now c.in_ok-id.behind.now c.in_ok-id.id id.0 id.1 c.in_ok-object_type.behind.now c.in_ok-object_type.object_type object_type.1
    c.in_err-size.field-0.0 c.in_err-size.ensures)

pub returns : goal.returns
returns c =
    let id = c.in_ok-id.ensures in
    let object_type = c.in_ok-object_type.ensures in
    let size = c.in_ok-size.ensures in
    whole_header c.args.bytes.now c.in_ok-id.behind.now c.in_ok-id.id id.0 id.1 c.in_ok-object_type.behind.now c.in_ok-object_type.object_type object_type.1
    c.in_ok-size.size c.in_ok-size.behind.now size.0 size.1
