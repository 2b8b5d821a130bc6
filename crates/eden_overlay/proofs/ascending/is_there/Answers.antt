use Rattle.std.proofs.Common.{rules, arith, ◌≡◌, subst, sym, nat_lt, false, length}
use Rattle.eden_overlay.specs.internal.There.{IsThere}
use Rattle.eden_overlay.proofs.Placing.{nothing_there, judged_there}
use Rattle.eden_overlay.proofs.ascending.is_there.Goals as goal

pub returns-then-at-entries : goal.returns-then-at-entries
returns-then-at-entries g c =
    subst (λ b. IsThere b c.args.path.now c.args.entries.now c.args.at) (search rules)
    (judged_there c.args.path.now c.args.entries.now c.args.at c.index-entries-at.result (omega arith) c.index-entries-at.is)

pub returns-else-at-entries : goal.returns-else-at-entries
returns-else-at-entries g c =
    let no : nat_lt c.args.at (length c.args.entries.now) ≡ false = grind arith in
    subst (λ b. IsThere b c.args.path.now c.args.entries.now c.args.at) (sym no) (nothing_there c.args.path.now c.args.entries.now c.args.at (omega arith))
