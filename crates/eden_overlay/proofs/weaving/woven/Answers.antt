use Rattle.std.proofs.Common.{◌≡◌, ℕ, List, IfOk, subst}
use Rattle.eden_overlay.proofs.WovenRows.{listed}
use Rattle.eden_overlay.proofs.weaving.woven.Goals as goal

pub returns : goal.returns
returns c =
    λ base rows.
    subst (λ (ps : List (List ℕ)). IfOk c.weave.result (λ paths. paths.items ≡ ps)) (listed c.args.wanted.now base c.args.touched.now c.args.listed.items c.requires rows) c.weave.ensures
