use Rattle.std.proofs.Common.{sym, ap, subst, ◌∙◌}
use Rattle.eden_overlay.specs.Listings.{admitted}
use Rattle.eden_workcopy.specs.Meanings.{base_of}
use Rattle.eden_history.specs.Worlds.{now}
use Rattle.eden_accumulate.specs.Mounts.{State}
use Rattle.eden_accumulate.specs.internal.Describing.{AreWithin}
use Rattle.eden_accumulate.proofs.Standing.{IsPresent}
use Rattle.eden_accumulate.proofs.Seen.{root_is, shows, within}
use Rattle.eden_accumulate.proofs.mount.Mount.snapshot.Goals as goal

pub returns-clause-shown : goal.returns-clause-shown
returns-clause-shown g c =
    λ world h.
    let n = c.args.self.now in
    let present : IsPresent n = subst IsPresent c.self.view_is c.self.invariant in
    shows n.held n.work c.position.result.root c.in_ok-renames.renames c.in_ok-overlay.overlay (now world).files
    ((λ i. (c.position.ensures.log i).root) ∙ root_is n present)
    (c.in_ok-renames.ensures ∙ c.renames.ensures ∙ ap (λ (m : State). m.work.renames) c.self.view_is)
    (c.in_ok-overlay.ensures ∙ c.overlay.ensures ∙ ap (λ (m : State). m.work.overlay) c.self.view_is)
    h.files h.fits.below

pub returns-clause-files : goal.returns-clause-files
returns-clause-files g c =
    λ world h patterns.
    let n = c.args.self.now in
    let present : IsPresent n = subst IsPresent c.self.view_is c.self.invariant in
    ap (admitted patterns)
    (shows n.held n.work c.position.result.root c.in_ok-renames.renames c.in_ok-overlay.overlay (now world).files
    ((λ i. (c.position.ensures.log i).root) ∙ root_is n present)
    (c.in_ok-renames.ensures ∙ c.renames.ensures ∙ ap (λ (m : State). m.work.renames) c.self.view_is)
    (c.in_ok-overlay.ensures ∙ c.overlay.ensures ∙ ap (λ (m : State). m.work.overlay) c.self.view_is)
    h.files h.fits.below)

pub invariant_of-result : goal.invariant_of-result
invariant_of-result g c =
    let n = c.args.self.now in
    let present : IsPresent n = subst IsPresent c.self.view_is c.self.invariant in
    record {
      within =
          subst AreWithin (sym (c.in_ok-overlay.ensures ∙ c.overlay.ensures ∙ ap (λ (m : State). m.work.overlay) c.self.view_is))
          (within (base_of n.held n.work) n.work.overlay present.1.fits.texts);
    }
