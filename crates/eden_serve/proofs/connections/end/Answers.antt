use Rattle.eden_serve.specs.declared.program.Until.TheVariants.{Connections}
use Rattle.eden_serve.proofs.connections.end.Goals as goal

-- the audit agreed, and that is written
pub returns-in-Ok : goal.returns-in-Ok
returns-in-Ok g c =
    λ labels from desks input ran. c.end_lines.ensures labels from (Connections desks) input _ _ ran c.in-Ok.ensures.printed
