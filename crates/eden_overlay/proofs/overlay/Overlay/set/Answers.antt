use Rattle.std.proofs.Common.{◌≡◌, ◌+◌, ◌^◌, ◌<◌, true, length, sym, ap, subst, ◌∙◌, arith}
use Rattle.std.specs.FinMap as fin
use Rattle.std.specs.FinMap.{find}
use Rattle.eden_overlay.specs.Layers.{by_bytes}
use Rattle.eden_overlay.specs.internal.Blocks.{flat}
use Rattle.eden_overlay.proofs.Placing.{seen_put, still_sorted, on_err}
use Rattle.eden_overlay.proofs.Flattened.{counted_put, not_found, still_below}
use Rattle.eden_overlay.proofs.overlay.Overlay.set.Goals as goal

pub returns-in_err-is_new-clause-absent : goal.returns-in_err-is_new-clause-absent
returns-in_err-is_new-clause-absent c =
    on_err c.from_residual.result
    (ap (λ m. fin.get m c.args.path) (sym c.self.view_is)
    ∙ fin.get-from_sorted by_bytes (flat c.self.inside.blocks.items) c.args.path c.self.invariant.0
    ∙ c.in_err-is_new.ensures.absent)

pub invariant_of-self-2 : goal.invariant_of-self-2
invariant_of-self-2 c =
    let old = flat c.self.inside.blocks.items in
    let now = flat c.put_in.new.blocks.items in
    let is_new = c.in_ok-is_new.is_new in
    let more = counted_put c.args.path c.args.file old now is_new c.self.invariant.0 c.in_ok-is_new.ensures.ok c.in_ok-is_new.ensures.added in
    let all : fin.entries c.args.self.now ≡ old = ap fin.entries (sym c.self.view_is) ∙ fin.entries-from_sorted by_bytes old c.self.invariant.0 in
    let room : is_new ≡ true → length (fin.entries c.args.self.now) + 2 < 2 ^ 64 = λ added.
    c.is_too_many.ensures.room c.if-is_too_many.false
    (ap (fin.get c.args.self.now) c.as_bytes.ensures.bytes
    ∙ ap (λ m. fin.get m c.args.path) (sym c.self.view_is)
    ∙ fin.get-from_sorted by_bytes old c.args.path c.self.invariant.0
    ∙ not_found (find by_bytes c.args.path old) is_new c.in_ok-is_new.ensures.added added) in
    let as_many : length (fin.entries c.args.self.now) ≡ c.self.inside.count = ap length all ∙ c.self.invariant.2 in
    let below = still_below is_new c.self.inside.count (2 ^ 64) c.self.invariant.3 (λ added. subst (λ n. n + 2 < 2 ^ 64) as_many (room added)) in (
      still_sorted c.args.path c.args.file old now c.self.invariant.0 c.in_ok-is_new.ensures.ok,
      c.put_in.ensures.filled,
      omega (arith, more, c.from.ensures, c.self.invariant.2),
      omega (arith, below, c.from.ensures),
    )

pub returns-clause-ok : goal.returns-clause-ok
returns-clause-ok c =
    seen_put c.args.path c.args.file (flat c.self.inside.blocks.items) (flat c.put_in.new.blocks.items) c.self.invariant.0 c.in_ok-is_new.ensures.ok
    ∙ ap (λ m. fin.insert m c.args.path c.args.file) c.self.view_is
