use Rattle.std.proofs.Common.{◌≡◌, ◌++◌, map}
use Rattle.eden_messages.specs.declared.message.Request.TheVariants.{List as Below}
use Rattle.eden_mirror.specs.internal.Pending.{pending}
use Rattle.eden_mirror.proofs.awaited.Awaited.push_lists.Given as goal

-- the questions so far and those for what is left are those from before and all of these
abbrev pub invariant-loop-path : goal.invariant-loop-path
invariant-loop-path l =
    l.requests.items ++ map (λ prefix. Below l.query prefix l.filter) (pending l.path-iterator)
    ≡ l.initial.requests.items ++ map (λ prefix. Below l.query prefix l.filter) l.self
