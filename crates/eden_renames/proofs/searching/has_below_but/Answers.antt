use Rattle.std.proofs.Common.{◌||◌, sym, ap, ◌∙◌}
use Rattle.std.specs.Prelude.{filter}
use Rattle.std.specs.List.{list_any}
use Rattle.std.specs.FinMap as fin
use Rattle.eden_ids.specs.Paths.{lies_below}
use Rattle.eden_renames.specs.internal.Regions.{has_own}
use Rattle.eden_renames.proofs.Listed.{at_texts}
use Rattle.eden_renames.proofs.Regions.{regions}
use Rattle.eden_renames.proofs.searching.has_below_but.Goals as goal

pub returns-then-has_own : goal.returns-then-has_own
returns-then-has_own g c =
    c.if-has_own.true
    ∙ ap (λ b. b || list_any (λ e. has_own (g.S.Passes.passes c.args.passed.now) c.args.commit.now c.args.renames.now e.0) (filter (λ e. lies_below e.0 c.args.top.now) (fin.entries c.args.renames.now))) (sym c.if-has_own.true ∙ c.has_own.ensures)
    ∙ regions (g.S.Passes.passes c.args.passed.now) c.args.commit.now c.args.renames.now (at_texts c.args.commit.now c.texts_law.ensures) c.args.top.now

pub returns-else-has_own : goal.returns-else-has_own
returns-else-has_own g c =
    c.has_further.ensures
    ∙ ap (λ b. b || list_any (λ e. has_own (g.S.Passes.passes c.args.passed.now) c.args.commit.now c.args.renames.now e.0) (filter (λ e. lies_below e.0 c.args.top.now) (fin.entries c.args.renames.now))) (sym c.if-has_own.false ∙ c.has_own.ensures)
    ∙ regions (g.S.Passes.passes c.args.passed.now) c.args.commit.now c.args.renames.now (at_texts c.args.commit.now c.texts_law.ensures) c.args.top.now
