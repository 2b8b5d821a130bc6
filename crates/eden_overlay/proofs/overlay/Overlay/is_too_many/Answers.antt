use Rattle.std.proofs.Common.{length, ap, sym, ◌∙◌, arith}
use Rattle.std.specs.FinMap as fin
use Rattle.eden_overlay.specs.Layers.{by_bytes}
use Rattle.eden_overlay.specs.internal.Blocks.{flat}
use Rattle.eden_overlay.proofs.overlay.Overlay.is_too_many.Goals as goal

pub returns-then-self-lt-MOST-clause-room : goal.returns-then-self-lt-MOST-clause-room
returns-then-self-lt-MOST-clause-room c few none =
    let all = flat c.self.inside.blocks.items in
    let as_many = ap length (ap fin.entries (sym c.self.view_is) ∙ fin.entries-from_sorted by_bytes all c.self.invariant.0) ∙ c.self.invariant.2 in
    omega (arith, as_many, c.if-self-lt-MOST.true)
