use Rattle.std.proofs.Common.{rules, ◌∙◌}
use Rattle.eden_git.proofs.Naming.{has_names}
use Rattle.eden_git.proofs.rows.Rows.has_names_of.Goals as goal

pub returns : goal.returns
returns c =
    has_names c.eq.result c.self.inside.payload.now c.other.inside.payload.now c.as_slice.result.now c.as_slice-2.result.now c.args.self.now c.args.other.now
    (search rules)
    (c.as_slice.ensures.value ∙ c.self.invariant.3) (c.as_slice-2.ensures.value ∙ c.other.invariant.3) c.self.view_is c.other.view_is
