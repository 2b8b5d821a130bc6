use Rattle.std.proofs.Common.{is_some, ap, sym, ◌∙◌, arith}
use Rattle.std.specs.FinMap as fin
use Rattle.eden_overlay.specs.Layers.{by_bytes}
use Rattle.eden_overlay.specs.internal.Blocks.{flat}
use Rattle.eden_overlay.proofs.Placing.{seen_without, sorted_without}
use Rattle.eden_overlay.proofs.Flattened.{counted_without}
use Rattle.eden_overlay.proofs.overlay.Overlay.forget.Goals as goal

pub invariant_of-self : goal.invariant_of-self
invariant_of-self c =
    let old = flat c.self.inside.blocks.items in
    let left = flat c.take_out_of-said.new.blocks.items in
    let there = c.is_some.ensures ∙ ap is_some c.take_out_of-said.ensures.there in
    let fewer = counted_without c.args.path.now old left c.is_some.result c.self.invariant.0 c.take_out_of-said.ensures.left there in (
      sorted_without c.args.path.now old left c.self.invariant.0 c.take_out_of-said.ensures.left,
      c.take_out_of-said.ensures.filled,
      omega (arith, fewer, c.from.ensures, c.self.invariant.2),
      omega (arith, c.self.invariant.3),
    )

pub returns-clause-left : goal.returns-clause-left
returns-clause-left c =
    seen_without c.args.path.now (flat c.self.inside.blocks.items) (flat c.take_out_of-said.new.blocks.items) c.self.invariant.0 c.take_out_of-said.ensures.left
    ∙ ap (λ m. fin.remove m c.args.path.now) c.self.view_is

pub returns-clause-said : goal.returns-clause-said
returns-clause-said c =
    c.take_out_of-said.ensures.there
    ∙ sym (fin.get-from_sorted by_bytes (flat c.self.inside.blocks.items) c.args.path.now c.self.invariant.0)
    ∙ ap (λ m. fin.get m c.args.path.now) c.self.view_is
