use Rattle.std.proofs.Common.{sym, ap, ◌∙◌}
use Rattle.eden_git.specs.Entries.{parts_of}
use Rattle.eden_git.proofs.Cuts.{cut_at, not_cut}
use Rattle.eden_git.proofs.entry.cut.Goals as goal

pub returns-in_err-at : goal.returns-in_err-at
returns-in_err-at c = ap parts_of c.from_residual.ensures ∙ sym (not_cut c.args.byte c.args.bytes.now c.in_err-at.ensures)

pub returns : goal.returns
returns c = cut_at c.args.byte c.in_ok-at.at c.args.bytes.now c.in_ok-at.ensures.0.high c.in_ok-at.ensures.0.before c.in_ok-at.ensures.1
