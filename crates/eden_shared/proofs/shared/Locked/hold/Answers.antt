use Rattle.std.proofs.Common.{◌≡◌, Some, sym, ◌∙◌, subst}
use Rattle.eden_shared.specs.Reached.{IsDescended}
use Rattle.eden_shared.proofs.Reaching.{holds_descend}
use Rattle.eden_shared.proofs.shared.Locked.hold.Goals as goal

pub invariant_of-self : goal.invariant_of-self
invariant_of-self g c =
    let same = sym c.in_err-raw.ensures.unchanged in
    let was = c.args.self.now in record {
      counted = subst (λ t. g.T.Served.stored t ≡ Some was.book.total) same was.counted;
      most = was.most;
      none_back = was.none_back;
      unused = was.unused;
      descends = subst (IsDescended g.T.Served.stored g.T.Served.apply_gives g.T.Served.hold_gives was.book.total) same was.descends;
    }

pub invariant_of-self-2-clause-descends : goal.invariant_of-self-2-clause-descends
invariant_of-self-2-clause-descends g c =
    holds_descend g.T.Served.stored g.T.Served.apply_gives g.T.Served.hold_gives c.args.self.now.book.total c.audit.new.self.total _ c.args.request.now
    c.in_ok-raw.raw c.args.self.now.object c.hold.new.self (c.audit.ensures.total ∙ c.add.ensures.total) c.args.self.now.descends
    c.in_ok-raw.ensures.given
