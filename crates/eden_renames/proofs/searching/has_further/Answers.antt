use Rattle.std.proofs.Common.{Bool, ap, sym, ◌∙◌}
use Rattle.std.proofs.lemmas.List.Folds.{list_any_at}
use Rattle.std.specs.List.{list_any}
use Rattle.eden_renames.specs.Renames.{Entry}
use Rattle.eden_renames.specs.internal.Regions.{has_own}
use Rattle.eden_renames.proofs.searching.has_further.Goals as goal

pub returns-then-has_own : goal.returns-then-has_own
returns-then-has_own g c =
    let has : Entry → Bool = λ e. has_own (g.S.Passes.passes c.args.passed.now) c.args.commit.now c.args.renames.now e.0 in
    sym
    (ap (list_any has) (sym c.entries_below-entry-items.ensures)
    ∙ list_any_at has c.entries_below-entry-items.result.now c.loop-entry.entry-index c.entry-item.result c.loop-entry-test.true
    (ap has (sym c.entry-item.is) ∙ sym c.has_own.ensures ∙ c.if-has_own.true))
