use Rattle.std.proofs.Common.{length}
use Rattle.eden_connect.proofs.Exchanging.{IsGathered}
use Rattle.eden_connect.proofs.link.gather.Given as goal

-- the frames of the requests so far are after the text
abbrev pub invariant-loop-request : goal.invariant-loop-request
invariant-loop-request l = IsGathered l.initial.window l.window l.requests l.unsent l.initial.text.items l.text.items

abbrev pub decreases-loop-request : goal.decreases-loop-request
decreases-loop-request l = length l.unsent
