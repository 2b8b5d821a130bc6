use Rattle.std.proofs.Common.{ap, sym, ◌∙◌}
use Rattle.std.specs.FinMap as fin
use Rattle.std.specs.FinMap.{find}
use Rattle.eden_renames.specs.Renames.{by_bytes}
use Rattle.eden_renames.proofs.renames.Renames.get.Goals as goal

pub returns : goal.returns
returns c =
    c.value_at.ensures
    ∙ ap (find by_bytes c.args.dir.now) c.as_slice.ensures.value
    ∙ sym (fin.get-from_sorted by_bytes c.self.inside.entries.items c.args.dir.now c.self.invariant)
    ∙ ap (λ m. fin.get m c.args.dir.now) c.self.view_is
