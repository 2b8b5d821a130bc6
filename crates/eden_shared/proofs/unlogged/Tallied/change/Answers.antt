use Rattle.std.proofs.Common.{◌+◌, ap, ◌∙◌}
use Rattle.eden_shared.proofs.Reaching.{changes_reach}
use Rattle.eden_shared.proofs.unlogged.Tallied.change.Goals as goal

pub invariant_of-self-2 : goal.invariant_of-self-2
invariant_of-self-2 g c = record {
  reached =
      changes_reach g.N.Naming.id g.T.Served.stands_for g.L.Origin.opens c.args.self.now.book.total c.add.new.self.total c.args.change.now c.args.self.now.object
      c.apply.new.self (c.add.ensures.total ∙ ap (λ n. n + 1) c.audit.ensures.total) c.args.self.now.reached c.in_ok-answer.ensures.stands;
}
