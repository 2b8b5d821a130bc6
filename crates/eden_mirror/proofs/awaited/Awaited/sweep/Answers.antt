use Rattle.std.proofs.Common.{not, sym, ap, ◌∙◌, length, rules}
use Rattle.indexmap.proofs.CallerLemmas.{filter-RetainsPairs}
use Rattle.eden_mirror.specs.internal.Pending.{pending}
use Rattle.eden_mirror.proofs.Pending.{pending-swept}
use Rattle.eden_mirror.proofs.awaited.Awaited.sweep.Goals as goal

pub invariant_of-self : goal.invariant_of-self
invariant_of-self c =
    let kept = ap pending (filter-RetainsPairs _ (λ e. not e.1) _ (λ k v b w g call. search rules) _ _ c.retain.ensures.filtered)
    ∙ pending-swept c.self.inside.paths.entries in
    record {
      distinct = c.retain.ensures.unique;
      count = c.self.invariant.count ∙ ap length (sym kept);
    }

pub returns-then-self-len : goal.returns-then-self-len
returns-then-self-len c =
    ap pending (filter-RetainsPairs _ (λ e. not e.1) _ (λ k v b w g call. search rules) _ _ c.retain.ensures.filtered)
    ∙ pending-swept c.self.inside.paths.entries
    ∙ c.self.view_is
