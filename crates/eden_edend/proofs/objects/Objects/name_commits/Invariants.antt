use Rattle.std.proofs.Common.{◌≡◌, ◌++◌, take}
use Rattle.eden_edend.specs.OwnLabels.{own_bindings}
use Rattle.eden_edend.proofs.objects.Objects.name_commits.Given as goal

-- the first ids are bound, and the store is as it was
abbrev pub invariant-loop-id : goal.invariant-loop-id
invariant-loop-id l =
    (l.self.labels ≡ own_bindings l.fn.self.store (take l.id-index l.ids) ++ l.fn.self.labels) × (l.self.store ≡ l.fn.self.store)
