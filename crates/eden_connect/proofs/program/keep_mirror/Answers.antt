use Rattle.eden_connect.proofs.Following.{tells_if}
use Rattle.eden_connect.proofs.program.keep_mirror.Goals as goal

pub returns-in-Ok-clause-placed : goal.returns-in-Ok-clause-placed
returns-in-Ok-clause-placed g c =
    tells_if _ _ _ _ _ _ c.in-Ok.ensures.followed c.print_report.ensures.ok

pub returns-in-Ok-clause-unplaced : goal.returns-in-Ok-clause-unplaced
returns-in-Ok-clause-unplaced g c = λ is.
    let told = c.print_report.ensures.unplaced is in
    record { mirror = c.in-Ok.mirror; followed = c.in-Ok.ensures.followed; place = told.0; text = told.1 }

pub returns-in-Ok-clause-torn : goal.returns-in-Ok-clause-torn
returns-in-Ok-clause-torn g c = λ is.
    record { mirror = c.in-Ok.mirror; followed = c.in-Ok.ensures.followed; text = c.print_report.ensures.torn is }
