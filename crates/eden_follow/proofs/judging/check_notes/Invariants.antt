use Rattle.std.proofs.Common.{◌≡◌, List, map, take, drop}
use Rattle.eden_logs.specs.declared.log.LogEntry.{LogEntry}
use Rattle.eden_follow.specs.internal.Judged.{IsAt, Lists, Walks}
use Rattle.eden_follow.specs.internal.Rows.{asked, told}
use Rattle.eden_follow.proofs.judging.check_notes.Given as goal

-- the notes so far are judged, and what is found of those that are left settles them all
abbrev pub invariant-loop-note : goal.invariant-loop-note
invariant-loop-note l = record {
  rows : map asked l.rows ≡ map asked l.initial.rows;
  at : IsAt (take l.note-index l.notes) l.rows l.highest;
  walks : (entries : List LogEntry) → Lists entries (map told l.replies) (map asked l.initial.rows) → Walks entries l.notes (take l.note-index l.notes) (drop l.note-index l.notes);
}
