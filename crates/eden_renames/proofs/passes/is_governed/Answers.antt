use Rattle.std.proofs.Common.{◌≡◌, ℕ, List, Option, Some, None, is_some, refl, sym, ap, ◌∙◌}
use Rattle.std.specs.Borrow.{Bor}
use Rattle.eden_renames.specs.internal.Told.{entry_told}
use Rattle.eden_renames.proofs.Regions.{governed_near}
use Rattle.eden_renames.proofs.passes.is_governed.Goals as goal

pub returns : goal.returns
returns c =
    c.is_some.ensures
    ∙ sym (told c.args.path.now c.nearest.result)
    ∙ ap is_some (sym c.nearest.ensures.told)
    ∙ sym (governed_near c.args.renames.now c.args.path.now)
  where
    told : (path : List ℕ) (found : Option (ℕ × Bor (Option (List ℕ)))) → is_some (entry_told path found) ≡ is_some found
    told path None = refl
    told path (Some found) = refl
