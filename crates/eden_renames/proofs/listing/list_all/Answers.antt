use Rattle.std.proofs.Common.{◌≡◌, IfOk, sym, ap, subst, ◌∙◌}
use Rattle.std.specs.Prelude.{filter}
use Rattle.eden_globs.specs.Filters.{admits}
use Rattle.eden_ids.specs.FileMaps.{paths}
use Rattle.eden_renames.specs.Renames.{at_paths, seen_through}
use Rattle.eden_renames.proofs.Apart.{all_ordered}
use Rattle.eden_renames.proofs.Seen.{seen-unmoved}
use Rattle.eden_renames.proofs.listing.list_all.Goals as goal

pub returns-then-is_empty : goal.returns-then-is_empty
returns-then-is_empty g c =
    subst (λ files. IfOk c.list_unmoved.result (λ list. list.items ≡ filter (admits c.args.wanted.now) (paths (at_paths files))))
    (sym (ap (seen_through c.args.commit.now) (c.is_empty.ensures.0 c.if-is_empty.true) ∙ seen-unmoved c.args.commit.now))
    c.list_unmoved.ensures

pub returns : goal.returns
returns g c =
    all_ordered c.args.commit.now c.args.renames.now c.args.wanted.now c.add_seen_by.new.list.items c.sort_paths.new.paths.items _ _
    c.texts_law.ensures c.in_ok-sort_paths.ensures.same c.in_ok-sort_paths.ensures.sorted
    c.in_ok-list.ensures c.entries.ensures c.in_ok-add_seen_by.ensures
