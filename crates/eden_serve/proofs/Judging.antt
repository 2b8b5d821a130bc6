-- What an audit that agrees says.
use Rattle.std.proofs.Common.{◌≡◌, List, subst, sym}
use Rattle.eden_accumulate.specs.Mounts.{StandsFor}
use Rattle.eden_shared.specs.Audits.{Stored}
use Rattle.eden_history.specs.Worlds.{WorldState}
use Rattle.eden_ids.specs.Naming.{git_name}
use Rattle.eden_logs.specs.Accounts.{AllNoted}
use Rattle.eden_logs.specs.Logs.{LogsAgree}
use Rattle.eden_logs.specs.declared.log.CallLog.{CallLog}
use Rattle.eden_serve.specs.Agreeing.{Agrees}

pub agrees : (before audited : Stored) (shown logs : List CallLog) → shown ≡ logs → audited ≡ before
    → ((world : WorldState) → StandsFor before.opening world → LogsAgree git_name world before.entries shown) → AllNoted shown before.entries → ∥ Agrees audited logs ∥₁
agrees before audited shown logs shown_is same agree noted =
    subst (λ l. ∥ Agrees audited l ∥₁) shown_is (subst (λ a. ∥ Agrees a shown ∥₁) (sym same) ∣ record { agree = agree; noted_all = noted } ∣₁)
