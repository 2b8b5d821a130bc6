-- Why logs do not agree with a history: the first cause that holds.
use Rattle.std.specs.Prelude.{◌≢◌, ◌<◌, ◌≤◌, ◌⊎◌, ℕ, List, [], ◌∷◌, ◌++◌, length, Contains}
use Rattle.eden_history.specs.Worlds.{Namer, WorldState}
use Rattle.eden_logs.specs.declared.call.CallAnswer.{CallAnswer}
use Rattle.eden_logs.specs.declared.fault.AuditFault.{AuditFault}
use Rattle.eden_logs.specs.declared.fault.AuditFault.TheVariants.{UnknownCall, WrongReply, OutOfOrder, Twice, CountsDiffer, NoMemory}
use Rattle.eden_logs.specs.declared.history.HistoryEntry.{HistoryEntry}
use Rattle.eden_logs.specs.declared.log.CallLog.{CallLog}
use Rattle.eden_logs.specs.declared.log.LogEntry.{LogEntry}
use Rattle.eden_logs.specs.Histories.{answers_along}
use Rattle.eden_logs.specs.Logs.{IsKnown, IsRight, IsGood, AllGood, LogsGood, tickets_of, tickets_in}

-- the cause holds of an entry, and none before it does
abbrev pub IsFault : List HistoryEntry → List CallAnswer → List ℕ → ℕ → ℕ → LogEntry → AuditFault → Type 0
IsFault history answers earlier caller last noted UnknownCall = IsKnown history caller noted → ⊥
IsFault history answers earlier caller last noted WrongReply = IsKnown history caller noted × (IsRight answers noted → ⊥)
IsFault history answers earlier caller last noted OutOfOrder = IsKnown history caller noted × IsRight answers noted × (noted.ticket ≤ last)
IsFault history answers earlier caller last noted Twice =
    IsKnown history caller noted × IsRight answers noted × (last < noted.ticket) × Contains earlier noted.ticket
IsFault history answers earlier caller last noted CountsDiffer = ⊥
IsFault history answers earlier caller last noted NoMemory = ⊥

-- the first entry of a log that has a cause has this one
abbrev pub FirstFault : List HistoryEntry → List CallAnswer → List ℕ → ℕ → ℕ → List LogEntry → AuditFault → Type 0
FirstFault history answers earlier caller last [] fault = ⊥
FirstFault history answers earlier caller last (noted ∷ rest) fault = IsFault history answers earlier caller last noted fault
    ⊎ (IsGood history answers earlier caller last noted × FirstFault history answers earlier caller noted.ticket rest fault)

-- the first entry of all logs that has a cause has this one
abbrev pub LogsFault : List HistoryEntry → List CallAnswer → List ℕ → List CallLog → AuditFault → Type 0
LogsFault history answers earlier [] fault = ⊥
LogsFault history answers earlier (log ∷ logs) fault = FirstFault history answers earlier log.caller 0 log.entries fault
    ⊎ (AllGood history answers earlier log.caller 0 log.entries × LogsFault history answers (earlier ++ tickets_of log) logs fault)

-- no entry has a cause, and the logs have another number of entries than the history
pub record OnlyCountsDiffer (history : List HistoryEntry) (answers : List CallAnswer) (logs : List CallLog) : Type 0 where
  pub good : LogsGood history answers [] logs
  pub count : length (tickets_in logs) ≢ length history

-- what is wrong with logs, compared with a history from a world
abbrev pub IsWrong : Namer → WorldState → List HistoryEntry → List CallLog → AuditFault → Type 0
IsWrong name world history logs CountsDiffer = OnlyCountsDiffer history (answers_along name world history) logs
IsWrong name world history logs fault = LogsFault history (answers_along name world history) [] logs fault
