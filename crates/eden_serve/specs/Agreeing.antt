-- When what callers note agrees with what a mount stored.
use Rattle.std.specs.Prelude.{List}
use Rattle.eden_accumulate.specs.Mounts.{StandsFor}
use Rattle.eden_shared.specs.Audits.{Stored}
use Rattle.eden_history.specs.Worlds.{WorldState}
use Rattle.eden_ids.specs.Naming.{git_name}
use Rattle.eden_logs.specs.Accounts.{AllNoted}
use Rattle.eden_logs.specs.Logs.{LogsAgree}
use Rattle.eden_logs.specs.declared.log.CallLog.{CallLog}

-- The logs agree with the stored history, and note all of its calls.
pub record Agrees (audited : Stored) (logs : List CallLog) : Type 0 where
  pub agree : (world : WorldState) → StandsFor audited.opening world → LogsAgree git_name world audited.entries logs
  pub noted_all : AllNoted logs audited.entries
