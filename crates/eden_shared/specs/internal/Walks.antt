-- What is found of what is left settles the whole.
use Rattle.std.specs.Prelude.{ℕ, List, []}
use Rattle.eden_logs.specs.declared.call.CallAnswer.{CallAnswer}
use Rattle.eden_logs.specs.declared.fault.AuditFault.{AuditFault}
use Rattle.eden_logs.specs.declared.history.HistoryEntry.{HistoryEntry}
use Rattle.eden_logs.specs.declared.log.CallLog.{CallLog}
use Rattle.eden_logs.specs.declared.log.LogEntry.{LogEntry}
use Rattle.eden_shared.specs.Faults.{FirstFault, LogsFault}
use Rattle.eden_logs.specs.Logs.{AllGood, LogsGood}

-- of a log, where what is left comes after a ticket
pub record Walks (history : List HistoryEntry) (answers : List CallAnswer) (earlier : List ℕ) (caller : ℕ) (whole : List LogEntry) (last : ℕ) (left : List LogEntry) : Type 0 where
  pub good : AllGood history answers earlier caller last left → AllGood history answers earlier caller 0 whole
  pub fault : (f : AuditFault) → FirstFault history answers earlier caller last left f → FirstFault history answers earlier caller 0 whole f

-- of the logs, where what is left comes after logs with these tickets
pub record LogWalks (history : List HistoryEntry) (answers : List CallAnswer) (whole : List CallLog) (earlier : List ℕ) (left : List CallLog) : Type 0 where
  pub good : LogsGood history answers earlier left → LogsGood history answers [] whole
  pub fault : (f : AuditFault) → LogsFault history answers earlier left f → LogsFault history answers [] whole f
