use Rattle.std.proofs.Common.{nat_eq, sym, ap, ◌∙◌}
use Rattle.std.specs.List.{ends_with}
use Rattle.eden_globs.proofs.Edges.{last_refused}
use Rattle.eden_globs.proofs.pattern.Part.may_end.Goals as goal

pub returns-in-Name : goal.returns-in-Name
returns-in-Name c = λ apart name at.
    last_refused c.args.self.now c.in-Name.bytes c.args.path.now name c.in-Name.is at
    (ap (ends_with nat_eq c.args.path.now) (sym c.as_slice.ensures.value) ∙ sym c.ends_with.ensures.value ∙ apart)
