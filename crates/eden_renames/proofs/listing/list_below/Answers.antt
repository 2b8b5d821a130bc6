use Rattle.std.proofs.Common.{length, sym, ◌∙◌}
use Rattle.std.proofs.lemmas.List.{nil_from_length}
use Rattle.eden_renames.proofs.Apart.{below_ordered}
use Rattle.eden_renames.proofs.InOrder.{none_there, own_alone}
use Rattle.eden_renames.proofs.listing.list_below.Goals as goal

pub returns-then-is_empty : goal.returns-then-is_empty
returns-then-is_empty g c =
    c.in_ok-list.ensures
    ∙ own_alone c.args.commit.now c.args.renames.now c.args.wanted.now c.args.top.now c.texts_law.ensures
    (sym c.entries_below-further.ensures
    ∙ nil_from_length c.entries_below-further.result.now (none_there (length c.entries_below-further.result.now) (sym c.is_empty.ensures ∙ c.if-is_empty.true)))

pub returns : goal.returns
returns g c =
    below_ordered c.args.commit.now c.args.renames.now c.args.wanted.now c.args.top.now c.add_seen_by.new.list.items c.sort_paths.new.paths.items _ _ c.texts_law.ensures
    c.in_ok-sort_paths.ensures.same c.in_ok-sort_paths.ensures.sorted
    c.in_ok-list.ensures c.entries_below-further.ensures c.in_ok-add_seen_by.ensures
