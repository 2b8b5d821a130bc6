-- How a walk goes on, and how it ends.
use Rattle.std.proofs.Common.{◌≡◌, ℕ, ◌+◌, ◌<◌, ◌≤◌, List, [], ◌∷◌, ◌++◌, length, length-append, take, drop, get_or, refl, sym, ◌∙◌, ap, subst, inl, inr, append_assoc, append-nil, arith}
use Rattle.std.proofs.lemmas.List.{length-map, take-append-drop}
use Rattle.eden_logs.specs.declared.call.CallAnswer.{CallAnswer}
use Rattle.eden_logs.proofs.Covered.{left_at, taken_at}
use Rattle.eden_logs.specs.declared.fault.AuditFault.{AuditFault}
use Rattle.eden_logs.specs.declared.history.HistoryEntry.{HistoryEntry}
use Rattle.eden_logs.specs.declared.log.CallLog.{CallLog}
use Rattle.eden_logs.specs.declared.log.LogEntry.{LogEntry}
use Rattle.eden_shared.specs.Faults.{IsFault, FirstFault, LogsFault}
use Rattle.eden_logs.specs.Logs.{AllGood, tickets_in, tickets_of}
use Rattle.eden_shared.specs.internal.Walks.{Walks, LogWalks}

-- ---- along a log

pub walk_found : (history : List HistoryEntry) (answers : List CallAnswer) (earlier : List ℕ) (caller : ℕ) (whole : List LogEntry) (last : ℕ) (noted : LogEntry) (rest : List LogEntry) (f : AuditFault)
    → Walks history answers earlier caller whole last (noted ∷ rest) → IsFault history answers earlier caller last noted f
    → FirstFault history answers earlier caller 0 whole f
walk_found history answers earlier caller whole last noted rest f walks h = walks.fault f (inl h)

pub walk_stop : (history : List HistoryEntry) (answers : List CallAnswer) (earlier : List ℕ) (caller : ℕ) (whole : List LogEntry) (i : ℕ) (last : ℕ) (noted : LogEntry) (f : AuditFault)
    → i < length whole → noted ≡ get_or whole i noted
    → Walks history answers earlier caller whole last (drop i whole) → IsFault history answers earlier caller last noted f
    → FirstFault history answers earlier caller 0 whole f
walk_stop history answers earlier caller whole i last noted f h same walks is =
    walk_found history answers earlier caller whole last noted (drop (i + 1) whole) f
    (subst (λ (left : List LogEntry). Walks history answers earlier caller whole last left) (left_at whole i noted h same) walks) is

-- ---- along the logs

pub logs_on : (history : List HistoryEntry) (answers : List CallAnswer) (whole : List CallLog) (earlier : List ℕ) (log : CallLog) (rest : List CallLog)
    → LogWalks history answers whole earlier (log ∷ rest) → AllGood history answers earlier log.caller 0 log.entries
    → LogWalks history answers whole (earlier ++ tickets_of log) rest
logs_on history answers whole earlier log rest walks good =
    record { good = λ h. walks.good (good, h); fault = λ f h. walks.fault f (inr (good, h)) }

pub logs_found : (history : List HistoryEntry) (answers : List CallAnswer) (whole : List CallLog) (earlier : List ℕ) (log : CallLog) (rest : List CallLog) (f : AuditFault)
    → LogWalks history answers whole earlier (log ∷ rest) → FirstFault history answers earlier log.caller 0 log.entries f
    → LogsFault history answers [] whole f
logs_found history answers whole earlier log rest f walks h = walks.fault f (inl h)

pub tickets_more : (logs : List CallLog) (log : CallLog) → tickets_in (logs ++ log ∷ []) ≡ tickets_in logs ++ tickets_of log
tickets_more [] log = append-nil (tickets_of log)
tickets_more (first ∷ logs) log = ap (λ ts. tickets_of first ++ ts) (tickets_more logs log) ∙ sym (append_assoc (tickets_of first) (tickets_in logs) (tickets_of log))

pub tickets_next : (logs : List CallLog) (i : ℕ) (log : CallLog) → i < length logs → log ≡ get_or logs i log
    → tickets_in (take (i + 1) logs) ≡ tickets_in (take i logs) ++ tickets_of log
tickets_next logs i log h same =
    ap tickets_in (taken_at logs i log h same) ∙ tickets_more (take i logs) log

pub count_next : (logs : List CallLog) (i : ℕ) (log : CallLog) → i < length logs → log ≡ get_or logs i log
    → length (tickets_in (take (i + 1) logs)) ≡ length (tickets_in (take i logs)) + length log.entries
count_next logs i log h same =
    ap length (tickets_next logs i log h same) ∙ length-append (tickets_in (take i logs)) (tickets_of log)
    ∙ ap (λ n. length (tickets_in (take i logs)) + n) (length-map log.entries (λ (noted : LogEntry). noted.ticket))

tickets_split : (logs more : List CallLog) → tickets_in (logs ++ more) ≡ tickets_in logs ++ tickets_in more
tickets_split [] more = refl
tickets_split (log ∷ logs) more = ap (λ ts. tickets_of log ++ ts) (tickets_split logs more) ∙ sym (append_assoc (tickets_of log) (tickets_in logs) (tickets_in more))

-- some first logs have no more entries than all
pub count_within : (logs : List CallLog) (i : ℕ) → length (tickets_in (take i logs)) ≤ length (tickets_in logs)
count_within logs i =
    let split : length (tickets_in logs) ≡ length (tickets_in (take i logs)) + length (tickets_in (drop i logs)) =
    ap (λ ls. length (tickets_in ls)) (sym (take-append-drop i logs)) ∙ ap length (tickets_split (take i logs) (drop i logs))
    ∙ length-append (tickets_in (take i logs)) (tickets_in (drop i logs)) in
    omega arith

pub logs_stop : (history : List HistoryEntry) (answers : List CallAnswer) (whole : List CallLog) (earlier : List ℕ) (i : ℕ) (log : CallLog) (f : AuditFault)
    → i < length whole → log ≡ get_or whole i log
    → LogWalks history answers whole earlier (drop i whole) → FirstFault history answers earlier log.caller 0 log.entries f
    → LogsFault history answers [] whole f
logs_stop history answers whole earlier i log f h same walks is =
    logs_found history answers whole earlier log (drop (i + 1) whole) f
    (subst (λ (left : List CallLog). LogWalks history answers whole earlier left) (left_at whole i log h same) walks) is

pub logs_next : (history : List HistoryEntry) (answers : List CallAnswer) (whole : List CallLog) (i : ℕ) (log : CallLog)
    → i < length whole → log ≡ get_or whole i log
    → LogWalks history answers whole (tickets_in (take i whole)) (drop i whole)
    → AllGood history answers (tickets_in (take i whole)) log.caller 0 log.entries
    → LogWalks history answers whole (tickets_in (take (i + 1) whole)) (drop (i + 1) whole)
logs_next history answers whole i log h same walks good =
    subst (λ (earlier : List ℕ). LogWalks history answers whole earlier (drop (i + 1) whole)) (sym (tickets_next whole i log h same))
    (logs_on history answers whole (tickets_in (take i whole)) log (drop (i + 1) whole)
    (subst (λ (left : List CallLog). LogWalks history answers whole (tickets_in (take i whole)) left) (left_at whole i log h same) walks) good)
