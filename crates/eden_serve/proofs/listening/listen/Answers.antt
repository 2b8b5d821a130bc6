use Rattle.std.proofs.Common.{◌∙◌}
use Rattle.eden_serve.proofs.Ending.{part_announced, unannounced}
use Rattle.eden_serve.proofs.listening.listen.Goals as goal

pub returns-in_default-listening_line-clause-ends : goal.returns-in_default-listening_line-clause-ends
returns-in_default-listening_line-clause-ends g c = unannounced _ c.args.place _ _ _ _ c.in-Ok.opened c.in-Ok.ensures.ends

pub returns-then-not-print-clause-ends : goal.returns-then-not-print-clause-ends
returns-then-not-print-clause-ends g c =
    part_announced _ c.args.place _ _ _ _ c.in-Ok.opened _ c.as_slice.result.now c.in-Ok.ensures.ends (c.as_slice.ensures.value ∙ c.in-Ok-listening_line.ensures)
    c.if-not-print.ensures.torn
