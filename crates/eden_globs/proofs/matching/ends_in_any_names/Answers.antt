use Rattle.std.proofs.Common.{subst, ◌∙◌}
use Rattle.eden_globs.specs.internal.Compiled.{AreParts}
use Rattle.eden_globs.proofs.Ends.{last_any}
use Rattle.eden_globs.proofs.matching.ends_in_any_names.Goals as goal

pub returns-in-Some : goal.returns-in-Some
returns-in-Some c = λ texts are.
    c.is_any_names.ensures ∙ last_any c.in-Some.field-0-1.now c.in-Some.part.now texts (subst (λ ps. AreParts ps texts) c.in-Some.ensures.cases.0 are)
