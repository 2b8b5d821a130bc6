use Rattle.std.proofs.Common.{◌≤◌, length, subst, take}
use Rattle.eden_batch.specs.internal.Grammar.{IsPrinted}
use Rattle.eden_batch.proofs.Fronts.{has_item}
use Rattle.eden_batch.proofs.framing.PrintedFramingObjectFault.next.Goals as goal

pub returns-in-Whole-clause-finds : goal.returns-in-Whole-clause-finds
returns-in-Whole-clause-finds c =
    let whole = c.in-Whole.whole in
    let begins = c.in-Whole.ensures in
    has_item c.args.ended c.args.held.now whole begins.0 (subst (λ bytes. whole ≤ length bytes) c.as_slice.ensures begins.1)
    (subst (λ bytes. IsPrinted (take whole bytes)) c.as_slice.ensures begins.2)
