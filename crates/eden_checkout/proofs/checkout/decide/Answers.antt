use Rattle.std.proofs.Common.{rules, of_calls, ◌++◌, ap, ◌∙◌}
use Rattle.std.specs.Prelude.{filter}
use Rattle.std.proofs.lemmas.Fn.{always_returns_same}
use Rattle.eden_history.specs.Checkouts.{is_conflict}
use Rattle.eden_checkout.proofs.Planning.{conflicts_listed, made_fits}
use Rattle.eden_checkout.proofs.checkout.decide.Goals as goal

pub returns-in-Dry-clause-conflicts : goal.returns-in-Dry-clause-conflicts
returns-in-Dry-clause-conflicts g c =
    let work = g.W.FileTree.files c.args.sides.now.work.now in
    let root = g.R.FileTree.files c.args.sides.now.root.now in
    let target = g.T.FileTree.files c.args.sides.now.target.now in
    c.in_ok-push_where.ensures.ok (is_conflict work root target) (always_returns_same _ _ _ (λ a r f k. search (rules, of_calls)))
    ∙ ap (λ ps. ps ++ filter (is_conflict work root target) c.args.differing.now) c.new-conflicts.ensures.items
    ∙ conflicts_listed work root target c.args.differing.now c.requires.files c.requires.differing

pub checked_out-requires : goal.checked_out-requires
checked_out-requires g c =
    let work = g.W.FileTree.files c.args.sides.now.work.now in
    let root = g.R.FileTree.files c.args.sides.now.root.now in
    let target = g.T.FileTree.files c.args.sides.now.target.now in record {
      mode = c.in_default.not-Dry;
      start = c.requires.start c.in_default.not-Dry;
      found =
          c.deref.ensures.value
          ∙ c.in_ok-push_where.ensures.ok (is_conflict work root target) (always_returns_same _ _ _ (λ a r f k. search (rules, of_calls)))
          ∙ ap (λ ps. ps ++ filter (is_conflict work root target) c.args.differing.now) c.new-conflicts.ensures.items
          ∙ conflicts_listed work root target c.args.differing.now c.requires.files c.requires.differing;
    }

pub returns-in_ok-next-in_default-clause-conflicts : goal.returns-in_ok-next-in_default-clause-conflicts
returns-in_ok-next-in_default-clause-conflicts g c =
    let work = g.W.FileTree.files c.args.sides.now.work.now in
    let root = g.R.FileTree.files c.args.sides.now.root.now in
    let target = g.T.FileTree.files c.args.sides.now.target.now in
    c.in_ok-push_where.ensures.ok (is_conflict work root target) (always_returns_same _ _ _ (λ a r f k. search (rules, of_calls)))
    ∙ ap (λ ps. ps ++ filter (is_conflict work root target) c.args.differing.now) c.new-conflicts.ensures.items
    ∙ conflicts_listed work root target c.args.differing.now c.requires.files c.requires.differing

pub returns-in_ok-next-in_default-clause-fits : goal.returns-in_ok-next-in_default-clause-fits
returns-in_ok-next-in_default-clause-fits g c =
    made_fits c.args.store.now c.args.mode c.args.start c.in_ok-next-in_default.next (g.W.FileTree.files c.args.sides.now.work.now) (g.R.FileTree.files c.args.sides.now.root.now)
    (g.T.FileTree.files c.args.sides.now.target.now) c.requires.files c.requires.texts c.requires.fits (c.requires.start c.in_default.not-Dry) c.in_ok-next-in_default.ensures.root
    c.in_ok-next-in_default.ensures.renames c.in_ok-next-in_default.ensures.files
