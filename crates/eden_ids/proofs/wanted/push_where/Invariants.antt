use Rattle.std.proofs.Common.{◌≡◌, ◌++◌, ℕ, Bool, List, take}
use Rattle.std.specs.Prelude.{filter}
use denote.Param.Always.{always_mut}
use Rattle.std.specs.Fn.{ComputesKey}
use Rattle.eden_ids.proofs.wanted.push_where.Given as goal

abbrev pub invariant-loop-path : goal.invariant-loop-path
invariant-loop-path g l =
    (always_mut g.F.FnMut l.initial.is_wanted → always_mut g.F.FnMut l.is_wanted)
    × ((wanted : List ℕ → Bool) → ComputesKey g.F.FnMut wanted l.initial.is_wanted
    → ComputesKey g.F.FnMut wanted l.is_wanted × (l.to.items ≡ l.initial.to.items ++ filter wanted (take l.path-index l.from)))
