use Rattle.std.proofs.Common.{◌≡◌, ◌≢◌, false, is_some, not, sym, ap, ◌∙◌, rules, refl}
use Rattle.eden_ids.specs.FileMaps.{file_at}
use Rattle.eden_ids.specs.Sameness.{same_bytes}
use Rattle.eden_history.specs.declared.change.Change.TheVariants.{Rename}
use Rattle.eden_accumulate.specs.Mounts.{files_of}
use Rattle.eden_accumulate.specs.internal.Rows.{Follows}
use Rattle.eden_accumulate.proofs.Standing.{answered, still_present}
use Rattle.eden_accumulate.proofs.Changing.{kept, left, rename_follows, state, stood}
use Rattle.eden_accumulate.proofs.mount.Mount.rename.Given as given
use Rattle.eden_accumulate.proofs.mount.Mount.rename.Goals as goal
use Rattle.eden_accumulate.proofs.mount.Mount.rename.Goals.{After-append_file}

pub rename_refusal-requires : goal.rename_refusal-requires
rename_refusal-requires g c = c.over-files.ensures ∙ ap files_of c.self.view_is

pub content_to_move-requires : goal.content_to_move-requires
content_to_move-requires g c =
    ap (λ files. is_some (file_at files c.args.old.now)) c.over-files.ensures ∙ stood c.args.old.now c.args.new.now c.self.view_is c.self.invariant c.in_default.ensures

pub invariant_of-self : goal.invariant_of-self
invariant_of-self g c = kept refl c.reserve.ensures.log c.self.invariant

pub invariant_of-self-in_err-shift_file : goal.invariant_of-self-in_err-shift_file
invariant_of-self-in_err-shift_file g c = kept c.in_err-shift_file.ensures.same c.reserve.ensures.log c.self.invariant

pub append_file-requires-clause-below : goal.append_file-requires-clause-below
append_file-requires-clause-below g c =
    let other : same_bytes c.args.old.now c.args.new.now ≡ false = search rules in
    left c.self.view_is c.self.invariant c.reserve.ensures.log (Rename c.args.old.now c.args.new.now) c.rename_refusal.result c.rename_refusal.ensures c.in_default.is (ap not other)

-- after it the mount follows
follows : (g : given.Over) (c : After-append_file g) → Follows c.args.self.now (Rename c.args.old.now c.args.new.now) (state c.self.inside.store c.shift_file.new.self c.append_file.new.self.log)
follows g c =
    let other : same_bytes c.args.old.now c.args.new.now ≡ false = search rules in
    let apart : c.args.old.now ≢ c.args.new.now = search rules in
    let there = ap (λ files. file_at files c.args.old.now) (sym c.over-files.ensures) ∙ c.in_ok-content.ensures in
    rename_follows c.args.old.now c.args.new.now c.self.view_is c.in_default.ensures (c.path_law.ensures, c.path_law-2.ensures) other apart c.shift_file.ensures.root (c.in_ok-shift_file.ensures.files c.self.inside.store there) (c.in_ok-shift_file.ensures.fits c.self.inside.store there)
    c.over-files.result c.over-files.ensures c.in_ok-delta.delta c.in_ok-delta.ensures c.reserve.ensures.log c.append_file.ensures.stands

pub returns-clause-stands : goal.returns-clause-stands
returns-clause-stands g c = follows g (goal.at.returns-clause-stands g c).After-append_file

pub invariant_of-self-2 : goal.invariant_of-self-2
invariant_of-self-2 g c = still_present (Rename c.args.old.now c.args.new.now) c.self.view_is c.self.invariant (follows g (goal.at.invariant_of-self-2 g c).After-append_file)

pub returns-clause-answers : goal.returns-clause-answers
returns-clause-answers g c = answered (Rename c.args.old.now c.args.new.now) c.position-2.result c.in_default.ensures (returns-clause-stands g c) c.position-2.ensures.world
