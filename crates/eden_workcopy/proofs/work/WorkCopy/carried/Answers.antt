use Rattle.std.proofs.Common.{◌≡◌, ℕ, true, List, sym, subst}
use Rattle.std.specs.List.{AllByRecursion}
use Rattle.eden_ids.specs.FileMaps.{paths}
use Rattle.eden_ids.specs.Paths.{lies_below}
use Rattle.eden_workcopy.specs.Meanings.{means}
use Rattle.eden_workcopy.proofs.CarriedOver.{all_below}
use Rattle.eden_workcopy.proofs.work.WorkCopy.carried.Goals as goal

pub carry_each-requires : goal.carry_each-requires
carry_each-requires g c =
    subst (λ (ps : List (List ℕ)). AllByRecursion (λ path. lies_below path c.args.old.now ≡ true) ps) (sym c.in_ok-moved.ensures)
    (all_below c.args.old.now (paths (means c.args.store.now c.args.self.now)))
