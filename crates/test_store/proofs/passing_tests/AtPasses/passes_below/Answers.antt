-- What begins with a front below the directory lies below it too.
use Rattle.std.proofs.Common.{sym, ◌∙◌}
use Rattle.std.proofs.lemmas.Bool.{or_right}
use Rattle.eden_objects.proofs.Gathering.{above_more}
use Rattle.test_store.proofs.passing_tests.AtPasses.passes_below.Goals as goal

pub returns : goal.returns
returns c = λ passed rest within.
    or_right _ _ (above_more c.args.front.now rest c.args.self.now.path.now (sym c.is_below.ensures ∙ passed))
