use Rattle.std.proofs.Common.{refl, ap, subst, ◌∙◌}
use Rattle.eden_ids.specs.Texts.{AreBytes}
use Rattle.eden_history.specs.declared.change.Change.TheVariants.{Write}
use Rattle.eden_accumulate.specs.Mounts.{files_of}
use Rattle.eden_accumulate.specs.internal.Rows.{Follows}
use Rattle.eden_accumulate.proofs.Standing.{answered, still_present}
use Rattle.eden_accumulate.proofs.Changing.{kept, left, state, write_follows}
use Rattle.eden_accumulate.proofs.mount.Mount.write_shared.Given as given
use Rattle.eden_accumulate.proofs.mount.Mount.write_shared.Goals as goal
use Rattle.eden_accumulate.proofs.mount.Mount.write_shared.Goals.{After-append_file}

pub write_refusal-requires : goal.write_refusal-requires
write_refusal-requires g c = c.over-files.ensures ∙ ap files_of c.self.view_is

pub invariant_of-self : goal.invariant_of-self
invariant_of-self g c = kept refl c.reserve.ensures.log c.self.invariant

pub invariant_of-self-in_err-put_file : goal.invariant_of-self-in_err-put_file
invariant_of-self-in_err-put_file g c = kept c.in_err-put_file.ensures.same c.reserve.ensures.log c.self.invariant

pub append_file-requires-clause-below : goal.append_file-requires-clause-below
append_file-requires-clause-below g c =
    left c.self.view_is c.self.invariant c.reserve.ensures.log (Write c.args.path.now c.args.kind c.args.bytes.now) c.write_refusal.result c.write_refusal.ensures c.in_default.is refl

-- after it the mount follows
follows : (g : given.Over) (c : After-append_file g) → Follows c.args.self.now (Write c.args.path.now c.args.kind c.args.bytes.now) (state c.self.inside.store c.put_file.new.self c.append_file.new.self.log)
follows g c =
    write_follows c.args.path.now c.args.kind c.args.bytes.now c.self.view_is c.in_default.ensures (c.path_law.ensures, subst AreBytes c.as_slice.ensures c.bytes_law.ensures) c.put_file.ensures.root c.in_ok-put_file.ensures.files c.in_ok-put_file.ensures.fits
    c.over-files.result c.over-files.ensures c.in_ok-delta.delta c.in_ok-delta.ensures c.reserve.ensures.log c.append_file.ensures.stands

pub returns-clause-stands : goal.returns-clause-stands
returns-clause-stands g c = follows g (goal.at.returns-clause-stands g c).After-append_file

pub invariant_of-self-2 : goal.invariant_of-self-2
invariant_of-self-2 g c = still_present (Write c.args.path.now c.args.kind c.args.bytes.now) c.self.view_is c.self.invariant (follows g (goal.at.invariant_of-self-2 g c).After-append_file)

pub returns-clause-answers : goal.returns-clause-answers
returns-clause-answers g c = answered (Write c.args.path.now c.args.kind c.args.bytes.now) c.position.result c.in_default.ensures (returns-clause-stands g c) c.position.ensures.world
