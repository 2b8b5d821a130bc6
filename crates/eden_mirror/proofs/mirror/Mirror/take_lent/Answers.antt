use Rattle.std.proofs.Common.{◌≡◌, false, sym, ◌∙◌, rules}
use Rattle.eden_mirror.proofs.Counting.{content_ignored}
use Rattle.eden_mirror.proofs.mirror.Mirror.take_lent.Goals as goal

pub returns-then-not-counts-clause-ok : goal.returns-then-not-counts-clause-ok
returns-then-not-counts-clause-ok c =
    let no : c.counts.result ≡ false = search rules in
    content_ignored c.args.self.now c.args.query c.args.position c.args.path.now c.args.content.now (sym (c.counts.ensures c.args.content.now) ∙ no)
