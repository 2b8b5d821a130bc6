use Rattle.std.proofs.Common.{◌∙◌, List, sym, ap, subst, rules}
use mathlib.Core.Bool.{true≢false}
use Rattle.std.specs.Prelude.{IsSome}
use Rattle.eden_history.specs.declared.position.Position.{Position}
use Rattle.eden_ids.specs.declared.id.Id.{Id}
use Rattle.eden_objects.specs.Commits.{commit_map}
use Rattle.eden_objects.specs.Objects.{Held}
use Rattle.eden_demo.proofs.judging.wanted.Goals as goal

-- the mount's store has the commit of its position
pub unreachable-requires : goal.unreachable-requires
unreachable-requires c =
    let some = c.stands_law.ensures in
    let root = ap (λ (p : Position). p.root) (c.in_ok-snapshot.ensures.position some.0 some.1) ∙ sym some.1.root in
    let there = subst (λ (r : Id). IsSome (commit_map c.args.mount.now.held r)) (sym root) some.1.fits.root in
    let is = subst (λ (held : List Held). IsSome (commit_map held c.in_ok-snapshot.field-0.position.root)) (sym c.store.ensures) there in
    true≢false (sym (subst IsSome (c.in-Err-NoCommit.ensures.refuses (search rules)) is))
