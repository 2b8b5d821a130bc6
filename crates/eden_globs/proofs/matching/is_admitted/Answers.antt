use Rattle.std.proofs.Common.{sym, ◌∙◌, refl}
use Rattle.eden_globs.specs.internal.Compiled.{left_of}
use Rattle.eden_globs.proofs.Parts.{parts_as_texts}
use Rattle.eden_globs.proofs.matching.is_admitted.Goals as goal

pub returns-in-Some : goal.returns-in-Some
returns-in-Some c = λ texts are.
    c.is_path_end.ensures ∙ sym c.in-Some.ensures.here ∙ parts_as_texts c.args.parts.now texts are (left_of c.args.path)

pub returns-in-None : goal.returns-in-None
returns-in-None c = λ texts are. sym (c.in-None.ensures.none refl) ∙ parts_as_texts c.args.parts.now texts are (left_of c.args.path)
