use Rattle.eden_demo.proofs.Telling.{prints, prints_front}
use Rattle.eden_demo.proofs.verdict.Verdict.report.Goals as goal

pub returns-then-not-print-clause-torn : goal.returns-then-not-print-clause-torn
returns-then-not-print-clause-torn g c =
    λ _. prints_front _ _ _ _ c.args.self.audit c.args.self.agree c.as_bytes.ensures.value c.in-Ok.ensures c.if-not-print.ensures.torn

pub returns-clause-named : goal.returns-clause-named
returns-clause-named g c =
    λ fault is. prints _ _ _ _ c.args.self.audit c.args.self.agree c.as_bytes.ensures.value c.in-Ok.ensures c.if-not-print.ensures.printed
