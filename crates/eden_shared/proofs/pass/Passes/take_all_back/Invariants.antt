use Rattle.std.proofs.Common.{◌≡◌, ◌+◌, length}
use Rattle.eden_shared.specs.Passes.{made_by}
use Rattle.eden_shared.proofs.pass.Passes.take_all_back.Given as goal

-- the passes so far are back, and what they count is counted
abbrev pub invariant-loop-pass : goal.invariant-loop-pass
invariant-loop-pass g l = (l.self.most ≡ l.initial.self.most) × (l.self.given ≡ l.initial.self.given) × (l.self.back ≡ l.initial.self.back + length l.yielded)
    × (l.self.amount ≡ l.initial.self.amount + made_by l.yielded)
