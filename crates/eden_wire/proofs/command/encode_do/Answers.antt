use Rattle.std.proofs.lemmas.Result.{err_from_is_err_and}
use Rattle.eden_wire.proofs.DoLengths.{has_frame}
use Rattle.eden_wire.proofs.command.encode_do.Goals as goal

pub returns-in_err-frame-clause-too_large : goal.returns-in_err-frame-clause-too_large
returns-in_err-frame-clause-too_large c =
    let p = err_from_is_err_and c.from_residual.result c.from_residual.ensures.1 in
    let is = p.1 in
    let no = p.2 in
    has_frame c.args.doing.now c.from_residual.result (λ e. cc) c.in-Some.ensures.spelled.0

pub returns-in_err-put_bytes-clause-too_large : goal.returns-in_err-put_bytes-clause-too_large
returns-in_err-put_bytes-clause-too_large c =
    let p = err_from_is_err_and c.from_residual-in_err-put_bytes.result c.from_residual-in_err-put_bytes.ensures.1 in
    let is = p.1 in
    let no = p.2 in
    has_frame c.args.doing.now c.from_residual-in_err-put_bytes.result (λ e. cc) c.in-Some.ensures.spelled.0

pub returns-in_err-put_head-clause-too_large : goal.returns-in_err-put_head-clause-too_large
returns-in_err-put_head-clause-too_large c =
    let p = err_from_is_err_and c.from_residual-in_err-put_head.result c.from_residual-in_err-put_head.ensures.1 in
    let is = p.1 in
    let no = p.2 in
    has_frame c.args.doing.now c.from_residual-in_err-put_head.result (λ e. cc) c.in-Some.ensures.spelled.0

pub returns-in_err-put_change-clause-too_large : goal.returns-in_err-put_change-clause-too_large
returns-in_err-put_change-clause-too_large c =
    let p = err_from_is_err_and c.from_residual-in_err-put_change.result c.from_residual-in_err-put_change.ensures.1 in
    let is = p.1 in
    let no = p.2 in
    has_frame c.args.doing.now c.from_residual-in_err-put_change.result (λ e. cc) c.in-Some.ensures.spelled.0

pub returns-clause-too_large : goal.returns-clause-too_large
returns-clause-too_large c = has_frame c.args.doing.now _ (λ e. cc) c.in-Some.ensures.spelled.0
