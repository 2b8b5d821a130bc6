use Rattle.std.proofs.Common.{◌<◌, ◌∙◌, ap, sym, subst, drop, length, List, arith}
use Rattle.std.specs.Iterator.{YieldsFirstBy}
use Rattle.std.specs.List.{slice_get}
use Rattle.eden_git.specs.Entries.{plain}
use Rattle.eden_git.specs.Trees.{Entry}
use Rattle.eden_git.proofs.Stepping.{gives_row}
use Rattle.eden_git.proofs.rows.EntriesIterator.next.Goals as goal

pub returns-clause-steps : goal.returns-clause-steps
returns-clause-steps c =
    let es : List Entry = c.self.inside.rows in
    let stepped = c.in_ok-row.ensures.steps in
    let within : c.self.inside.left.start < length es = let end = c.self.invariant in omega (arith, stepped.1.0, end) in
    subst (λ left. YieldsFirstBy plain (λ es. es) left c.entry.result (drop c.next.new.self.start es)) c.self.view_is
    (subst (λ next. YieldsFirstBy plain (λ es. es) (drop c.self.inside.left.start es) c.entry.result (drop next es)) (sym stepped.1.2)
    (gives_row es c.self.inside.left.start c.entry.result within (c.entry.ensures ∙ ap (slice_get es) stepped.1.1)))
