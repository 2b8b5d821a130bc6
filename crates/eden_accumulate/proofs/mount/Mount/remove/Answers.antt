use Rattle.std.proofs.Common.{refl, ap, ◌∙◌}
use Rattle.eden_journal.specs.Deltas.{removed}
use Rattle.eden_history.specs.declared.change.Change.TheVariants.{Remove}
use Rattle.eden_accumulate.specs.internal.Rows.{Follows}
use Rattle.eden_accumulate.proofs.Standing.{answered, still_present}
use Rattle.eden_accumulate.proofs.Changing.{kept, left, remove_follows, state}
use Rattle.eden_accumulate.proofs.mount.Mount.remove.Given as given
use Rattle.eden_accumulate.proofs.mount.Mount.remove.Goals as goal
use Rattle.eden_accumulate.proofs.mount.Mount.remove.Goals.{After-append_file}

pub invariant_of-self : goal.invariant_of-self
invariant_of-self g c = kept refl c.reserve.ensures.log c.self.invariant

pub invariant_of-self-in_err-take_file : goal.invariant_of-self-in_err-take_file
invariant_of-self-in_err-take_file g c = kept c.in_err-take_file.ensures.same c.reserve.ensures.log c.self.invariant

pub append_file-requires-clause-below : goal.append_file-requires-clause-below
append_file-requires-clause-below g c =
    left c.self.view_is c.self.invariant c.reserve.ensures.log (Remove c.args.path.now) c.remove_refusal.result c.remove_refusal.ensures c.in_default.is refl

-- after it the mount follows
follows : (g : given.Over) (c : After-append_file g) → Follows c.args.self.now (Remove c.args.path.now) (state c.self.inside.store c.take_file.new.self c.append_file.new.self.log)
follows g c =
    remove_follows c.args.path.now c.self.view_is c.in_default.ensures c.path_law.ensures c.take_file.ensures.root c.in_ok-take_file.ensures.files c.in_ok-take_file.ensures.fits
    c.removed-delta.result (c.removed-delta.ensures ∙ ap removed c.in_ok-copy.ensures) c.reserve.ensures.log c.append_file.ensures.stands

pub returns-clause-stands : goal.returns-clause-stands
returns-clause-stands g c = follows g (goal.at.returns-clause-stands g c).After-append_file

pub invariant_of-self-2 : goal.invariant_of-self-2
invariant_of-self-2 g c = still_present (Remove c.args.path.now) c.self.view_is c.self.invariant (follows g (goal.at.invariant_of-self-2 g c).After-append_file)

pub returns-clause-answers : goal.returns-clause-answers
returns-clause-answers g c = answered (Remove c.args.path.now) c.position.result c.in_default.ensures (returns-clause-stands g c) c.position.ensures.world
