use Rattle.std.proofs.Common.{ap, sym, ◌∙◌}
use Rattle.std.specs.FinMap as fin
use Rattle.eden_renames.specs.Renames.{by_bytes}
use Rattle.eden_renames.proofs.renames.Renames.entries.Goals as goal

pub returns : goal.returns
returns c =
    c.as_slice.ensures.value
    ∙ sym (fin.entries-from_sorted by_bytes c.self.inside.entries.items c.self.invariant)
    ∙ ap fin.entries c.self.view_is
