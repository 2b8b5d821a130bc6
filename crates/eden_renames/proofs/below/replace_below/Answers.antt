use Rattle.std.proofs.Common.{T, sym, subst}
use Rattle.std.specs.FinMap.{is_sorted}
use Rattle.std.specs.FinMap.Entries.{is_sorted-where_key}
use Rattle.std.proofs.Common.{not}
use Rattle.eden_ids.specs.Paths.{lies_below}
use Rattle.eden_renames.specs.Renames.{by_bytes}
use Rattle.eden_renames.proofs.PutIn.{found_in_place, sorted_in_place}
use Rattle.eden_renames.proofs.below.replace_below.Goals as goal

pub put_in-requires-clause-sorted : goal.put_in-requires-clause-sorted
put_in-requires-clause-sorted c =
    subst (λ es. T (is_sorted by_bytes es)) (sym c.forget_below.ensures.left)
    (is_sorted-where_key by_bytes (λ q. not (lies_below q c.args.top.now)) c.args.entries.now.items c.requires.sorted)

pub returns-clause-sorted : goal.returns-clause-sorted
returns-clause-sorted c =
    sorted_in_place c.args.top.now c.args.more.items c.args.entries.now.items c.forget_below.new.entries.items c.put_in.new.entries.items
    c.requires.more_sorted c.requires.below
    (subst (λ es. T (is_sorted by_bytes es)) (sym c.forget_below.ensures.left)
    (is_sorted-where_key by_bytes (λ q. not (lies_below q c.args.top.now)) c.args.entries.now.items c.requires.sorted))
    c.forget_below.ensures.left c.put_in.ensures.together

pub returns-clause-finds : goal.returns-clause-finds
returns-clause-finds c =
    found_in_place c.args.top.now c.args.more.items c.args.entries.now.items c.forget_below.new.entries.items c.put_in.new.entries.items
    c.requires.below c.forget_below.ensures.left c.put_in.ensures.together
