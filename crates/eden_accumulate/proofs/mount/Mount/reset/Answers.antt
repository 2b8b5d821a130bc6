use Rattle.std.proofs.Common.{refl}
use Rattle.eden_history.specs.declared.change.Change.TheVariants.{Reset}
use Rattle.eden_workcopy.proofs.Rerooted.{no_memory_else}
use Rattle.eden_accumulate.specs.internal.Rows.{Follows}
use Rattle.eden_accumulate.proofs.Standing.{answered, still_present}
use Rattle.eden_accumulate.proofs.Changing.{kept, left, state}
use Rattle.eden_accumulate.proofs.Rooting.{commit_judged, reset_follows}
use Rattle.eden_accumulate.proofs.mount.Mount.reset.Given as given
use Rattle.eden_accumulate.proofs.mount.Mount.reset.Goals as goal
use Rattle.eden_accumulate.proofs.mount.Mount.reset.Goals.{After-append_root}

pub unreachable-requires : goal.unreachable-requires
unreachable-requires g c =
    commit_judged (Reset c.args.commit) c.args.commit c.self.view_is c.self.invariant c.in_default.ensures (λ commits row. refl)
    (c.in-Err-NoCommit.ensures.refuses (no_memory_else c.in-Err-NoCommit.field-0 c.in-Err-NoCommit.field-0-is))

pub invariant_of-self : goal.invariant_of-self
invariant_of-self g c = kept refl c.reserve.ensures.log c.self.invariant

pub append_root-requires-clause-below : goal.append_root-requires-clause-below
append_root-requires-clause-below g c =
    left c.self.view_is c.self.invariant c.reserve.ensures.log (Reset c.args.commit) c.reset_refusal.result c.reset_refusal.ensures c.in_default.is refl

-- after it the mount follows
follows : (g : given.Over) (c : After-append_root g) → Follows c.args.self.now (Reset c.args.commit) (state c.self.inside.store c.in-Ok.next c.append_root.new.self.log)
follows g c =
    reset_follows c.args.commit c.self.view_is c.in_default.ensures c.id_law.ensures c.in-Ok.ensures.fits c.in-Ok.ensures.root c.in-Ok.ensures.files
    c.new.result c.new.ensures c.reserve.ensures.log c.append_root.ensures.stands

pub returns-clause-stands : goal.returns-clause-stands
returns-clause-stands g c = follows g (goal.at.returns-clause-stands g c).After-append_root

pub invariant_of-self-2 : goal.invariant_of-self-2
invariant_of-self-2 g c = still_present (Reset c.args.commit) c.self.view_is c.self.invariant (follows g (goal.at.invariant_of-self-2 g c).After-append_root)

pub returns-clause-answers : goal.returns-clause-answers
returns-clause-answers g c = answered (Reset c.args.commit) c.position.result c.in_default.ensures (returns-clause-stands g c) c.position.ensures.world
