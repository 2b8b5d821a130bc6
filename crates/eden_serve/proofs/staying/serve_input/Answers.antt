use Rattle.std.proofs.KnownBytes.{Appends-nil}
use Rattle.eden_serve.specs.declared.program.Until.TheVariants.{Input}
use Rattle.eden_serve.proofs.staying.serve_input.Goals as goal

-- nothing is written
pub returns-in-Some : goal.returns-in-Some
returns-in-Some g c =
    λ w. c.end_lines.ensures c.args.service.lines.labels c.args.service.lines.from (Input c.args.terms) _ w w c.in-Some.ensures (Appends-nil w)
