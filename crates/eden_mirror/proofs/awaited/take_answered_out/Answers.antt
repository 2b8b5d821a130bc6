use Rattle.std.proofs.Common.{not, ◌∙◌, arith, rules}
use Rattle.indexmap.proofs.CallerLemmas.{filter-RetainsPairs}
use Rattle.eden_mirror.proofs.Pending.{swept-fresh, whole-fresh}
use Rattle.eden_mirror.proofs.awaited.take_answered_out.Goals as goal

pub returns-then-left-len : goal.returns-then-left-len
returns-then-left-len c =
    filter-RetainsPairs _ (λ e. not e.1) _ (λ k v b w g call. search rules) _ _ c.retain.ensures.filtered ∙ swept-fresh c.args.paths.now.entries

pub returns-else-left-len : goal.returns-else-left-len
returns-else-left-len c = whole-fresh c.args.paths.now.entries (omega (arith, c.requires, c.len.ensures.len))
