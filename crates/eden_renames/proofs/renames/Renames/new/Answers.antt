use Rattle.std.proofs.Common.{ap, ◌∙◌}
use Rattle.std.specs.FinMap as fin
use Rattle.eden_renames.specs.Renames.{by_bytes}
use Rattle.eden_renames.proofs.Finding.{nothing_sorted}
use Rattle.eden_renames.proofs.renames.Renames.new.Goals as goal

pub returns : goal.returns
returns c = ap (λ es. fin.from_sorted {R = by_bytes} es) c.new.ensures.items ∙ nothing_sorted
