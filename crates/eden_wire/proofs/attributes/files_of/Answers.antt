use Rattle.std.proofs.Common.{refl}
use Rattle.std.proofs.lemmas.Result.{err_from_is_err_and}
use Rattle.eden_wire.proofs.attributes.files_of.Goals as goal

pub returns-in_err-list : goal.returns-in_err-list
returns-in_err-list c =
    let p = err_from_is_err_and c.from_residual-in_err-list.result c.from_residual-in_err-list.ensures.1 in
    let refused = rw c.as_ref.ensures.value at c.in_err-list.ensures in
    rw (p.1, p.2) (λ told. rw c.in_ok-count.ensures (refused told))

pub returns : goal.returns
returns c =
    let read = rw c.as_ref.ensures.value at c.in_ok-list.ensures in
    rw (c.in_ok-count.ensures, read, c.from_vec.ensures) refl
