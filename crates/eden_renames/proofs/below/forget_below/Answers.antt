use Rattle.std.proofs.Common.{◌≡◌, ℕ, false, cond, not, List, [], ◌∷◌, map, rules, of_calls, refl, sym, ap, subst, ◌∙◌}
use Rattle.std.proofs.lemmas.Bool.{or_parts}
use Rattle.std.proofs.lemmas.Fn.{filter_same}
use Rattle.std.specs.Ordering.{nat_cmp}
use Rattle.std.specs.Cmp.Lexicographic.{slice_cmp}
use Rattle.std.specs.List.{list_any}
use Rattle.std.specs.List.Sorted.{IsStrictlySortedBy}
use Rattle.eden_ids.specs.Paths.{lies_below}
use Rattle.eden_ids.proofs.ByteOrder.{keys_rise}
use Rattle.eden_renames.specs.Renames.{Entry}
use Rattle.eden_renames.proofs.Shifting.{left_out}
use Rattle.eden_renames.proofs.below.forget_below.Goals as goal

none_to_drop : (top : List ℕ) (es : List Entry) → list_any (λ e. lies_below e.0 top) es ≡ false → es ≡ left_out top es
none_to_drop top [] none = refl
none_to_drop top (e ∷ es) none =
    let parts = or_parts (lies_below e.0 top) (list_any (λ x. lies_below x.0 top) es) none in
    ap (λ fs. e ∷ fs) (none_to_drop top es parts.1) ∙ sym (ap (λ b. cond (not b) (e ∷ left_out top es) (left_out top es)) parts.0)

pub has_path_below-requires : goal.has_path_below-requires
has_path_below-requires c =
    subst (λ es. IsStrictlySortedBy (slice_cmp nat_cmp) (map (λ (e : Entry). e.0) es)) (sym c.as_slice.ensures.value) (keys_rise c.args.entries.now.items c.requires)

pub returns-then-has_path_below-clause-left : goal.returns-then-has_path_below-clause-left
returns-then-has_path_below-clause-left c =
    filter_same _ (λ (e : Entry). not (lies_below e.0 c.args.top.now)) _ (λ x b f' k. search (rules, of_calls)) c.args.entries.now.items c.retain.new.self.items c.retain.ensures.filtered

pub returns-else-has_path_below-clause-left : goal.returns-else-has_path_below-clause-left
returns-else-has_path_below-clause-left c =
    none_to_drop c.args.top.now c.args.entries.now.items
    (ap (list_any (λ e. lies_below e.0 c.args.top.now)) (sym c.as_slice.ensures.value)
    ∙ ap (λ top. list_any (λ (e : Entry). lies_below e.0 top) c.as_slice.result.now) (sym c.as_bytes.ensures.bytes)
    ∙ sym c.has_path_below.ensures
    ∙ c.if-has_path_below.false)
