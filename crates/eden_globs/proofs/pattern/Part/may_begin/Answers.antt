use Rattle.std.proofs.Common.{nat_eq, sym, ap, ◌∙◌}
use Rattle.std.specs.List.{starts_with}
use Rattle.eden_globs.proofs.Edges.{first_refused}
use Rattle.eden_globs.proofs.pattern.Part.may_begin.Goals as goal

pub returns-in-Name : goal.returns-in-Name
returns-in-Name c = λ apart name names at.
    first_refused c.args.self.now c.in-Name.bytes c.args.path.now name names c.in-Name.is at
    (ap (starts_with nat_eq c.args.path.now) (sym c.as_slice.ensures.value) ∙ sym c.starts_with.ensures.value ∙ apart)
