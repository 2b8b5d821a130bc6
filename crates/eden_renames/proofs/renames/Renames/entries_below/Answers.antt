use Rattle.std.proofs.Common.{map, ap, sym, subst, ◌∙◌}
use Rattle.std.specs.Prelude.{filter}
use Rattle.std.specs.Ordering.{nat_cmp}
use Rattle.std.specs.Cmp.Lexicographic.{slice_cmp}
use Rattle.std.specs.List.Sorted.{IsStrictlySortedBy}
use Rattle.eden_ids.specs.Paths.{lies_below}
use Rattle.eden_ids.proofs.ByteOrder.{fin_keys_rise}
use Rattle.eden_renames.specs.Renames.{Entry}
use Rattle.eden_renames.proofs.renames.Renames.entries_below.Goals as goal

pub paths_below-requires : goal.paths_below-requires
paths_below-requires c =
    subst (λ es. IsStrictlySortedBy (slice_cmp nat_cmp) (map (λ (e : Entry). e.0) es)) (sym c.entries.ensures) (fin_keys_rise c.args.self.now)

pub returns : goal.returns
returns c =
    c.paths_below.ensures
    ∙ ap (λ top. filter (λ (e : Entry). lies_below e.0 top) c.entries.result.now) c.as_bytes.ensures.bytes
    ∙ ap (filter (λ (e : Entry). lies_below e.0 c.args.top.now)) c.entries.ensures
