use Rattle.std.proofs.Common.{rules, ◌≡◌, false, ap, sym, ◌∙◌, arith}
use Rattle.eden_ids.specs.Paths.{lies_below}
use Rattle.eden_objects.specs.Commits.{tree_rows}
use Rattle.eden_objects.proofs.Fitting.{limits}
use Rattle.eden_objects.proofs.Gathering.{none_admitted}
use Rattle.eden_objects.proofs.store.Store.gather_below.Goals as goal

pub returns-then-not-admits_below : goal.returns-then-not-admits_below
returns-then-not-admits_below g c =
    let refuses : c.admits_below.result ≡ false = search rules in
    c.new.ensures.items
    ∙ sym
    (none_admitted (g.S.Passes.passes c.args.passed.now) c.args.filter.now c.args.path.now (tree_rows c.args.self.now c.args.dir)
    (λ path below. c.admits_below.ensures.outside refuses path (ap (lies_below path) c.as_bytes.ensures.bytes ∙ below)))

pub gather-requires-clause-room : goal.gather-requires-clause-room
gather-requires-clause-room g c =
    let reach = (limits c.args.self.now c.closed_law.ensures.closed c.args.dir c.requires.tree).1 in
    omega (arith, reach, c.below.ensures.short)
