use Rattle.std.proofs.Common.{◌∙◌}
use Rattle.eden_ids.specs.FileMaps.{differ}
use Rattle.eden_workcopy.specs.Meanings.{means}
use Rattle.eden_checkout.specs.Plans.{root_files}
use Rattle.eden_checkout.proofs.Planning.{both_listed}
use Rattle.eden_checkout.proofs.checkout.unclean_paths.Goals as goal

pub returns-in_ok-unclean-in_default : goal.returns-in_ok-unclean-in_default
returns-in_ok-unclean-in_default g c =
    both_listed c.args.mode c.args.changed.now c.deref.result.now c.in_ok-unclean-in_default.unclean.items
    (differ (means c.args.store.now c.args.next.now) (root_files c.args.store.now c.args.next.now)) _ _ _
    c.in_default.not-Dry (c.deref.ensures.value ∙ c.in_ok-dirty-in_default.ensures) c.new-table.ensures c.in_ok-add_all-in_default.ensures.ok
    c.in_ok-add_all-in_default-2.ensures.ok c.in_ok-unclean-in_default.ensures
