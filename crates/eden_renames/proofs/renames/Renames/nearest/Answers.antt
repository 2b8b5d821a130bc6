use Rattle.std.proofs.Common.{◌≡◌, ◌+◌, ◌<◌, length, MatchOption, sym, subst, arith}
use Rattle.eden_renames.specs.internal.Told.{entry_told}
use Rattle.eden_renames.proofs.Finding.{IsNearestBefore, is_there, nearest_told, none_yet, not_there}
use Rattle.eden_renames.proofs.renames.Renames.nearest.Goals as goal
use Rattle.eden_renames.proofs.renames.Renames.nearest.Goals.{in-Some, in_default}

pub loop-at-init : goal.loop-at-init
loop-at-init c = record { near = none_yet c.args.self.now c.args.path.now; within = tt }

pub loop-at-preserved : goal.loop-at-preserved
loop-at-preserved c =
    elim c.match-said_before.branch [
      | in-Some w ↦ record {
        near =
            subst (λ found. IsNearestBefore c.args.self.now c.args.path.now (c.loop-at.at + 1) (entry_told c.args.path.now found)) (sym w.found-is)
            (is_there c.args.self.now c.args.path.now c.loop-at.at w.in-Some.source.now c.loop-at-test.true (sym w.in-Some.ensures));
        within = subst (λ found. MatchOption found (Unit {0}) (λ f. f.0 < length c.args.path.now)) (sym w.found-is) c.loop-at-test.true;
      }
      | in_default w ↦ record {
        near =
            subst (λ found. IsNearestBefore c.args.self.now c.args.path.now (c.loop-at.at + 1) (entry_told c.args.path.now found)) (sym w.found-is)
            (not_there c.args.self.now c.args.path.now c.loop-at.at (entry_told c.args.path.now c.loop-at.found) (sym w.in_default.ensures) c.loop-at.invariant.near);
        within = subst (λ found. MatchOption found (Unit {0}) (λ f. f.0 < length c.args.path.now)) (sym w.found-is) c.loop-at.invariant.within;
      }
    ]

pub returns : goal.returns
returns c =
    let end : c.loop-at.at ≡ length c.args.path.now = omega arith in
    record {
      told =
          nearest_told c.args.self.now c.args.path.now (entry_told c.args.path.now c.loop-at.found)
          (subst (λ n. IsNearestBefore c.args.self.now c.args.path.now n (entry_told c.args.path.now c.loop-at.found)) end c.loop-at.invariant.near);
      within = c.loop-at.invariant.within;
    }
