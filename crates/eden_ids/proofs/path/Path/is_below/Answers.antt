use Rattle.std.proofs.lemmas.List.{take_rest}
use Rattle.eden_ids.proofs.BelowLemmas.{below_in_steps}
use Rattle.eden_ids.proofs.path.Path.is_below.Goals as goal

pub returns-then-starts_with : goal.returns-then-starts_with
returns-then-starts_with c =
    let slash = rw (take_rest, c.as_slice.ensures) at c.starts_with-then-starts_with.ensures.value in
    rw (below_in_steps, ← c.as_bytes-bytes.ensures.bytes, ← c.as_bytes-top.ensures.bytes, ← c.starts_with.ensures.value, c.if-starts_with.true) slash
