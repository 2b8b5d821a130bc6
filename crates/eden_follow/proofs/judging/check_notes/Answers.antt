use Rattle.eden_follow.proofs.Grouped.{still_in_order}
use Rattle.eden_follow.proofs.judging.check_notes.Goals as goal

pub check_note-requires-clause-requests : goal.check_note-requires-clause-requests
check_note-requires-clause-requests c = still_in_order c.args.rows.now c.loop-note.rows c.loop-note.invariant.rows c.requires.requests
