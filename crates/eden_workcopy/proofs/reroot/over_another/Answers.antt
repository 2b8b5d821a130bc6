use Rattle.std.proofs.Common.{◌≡◌, Some, List, sym, subst, ◌∙◌}
use Rattle.std.specs.List.{AllByRecursion}
use Rattle.std.specs.FinMap as fin
use Rattle.eden_ids.proofs.TreeMaps.{entries_found}
use Rattle.eden_overlay.specs.Layers.{Entry, over}
use Rattle.eden_overlay.proofs.Overs.{file_told}
use Rattle.eden_workcopy.proofs.Rerooted.{entry_keeps, left_first, left_next, left_none}
use Rattle.eden_workcopy.proofs.reroot.over_another.Goals as goal

pub loop-entry-init : goal.loop-entry-init
loop-entry-init g c =
    let layer = c.args.overlay.now in
    let is = c.into_iter-entry-iterator.ensures.into_iter_gives ∙ c.entries-entry-items.ensures in (
      subst (λ (es : List Entry). AllByRecursion {X = Entry} (λ e. fin.get layer e.0 ≡ Some e.1) es) (sym is) (entries_found layer),
      λ root. left_first (over root layer) (g.B.FileTree.files c.args.base.now) layer c.new-next.result _ c.new-next.ensures is,
    )

pub loop-entry-preserved : goal.loop-entry-preserved
loop-entry-preserved g c =
    let layer = c.args.overlay.now in
    let base = g.B.FileTree.files c.args.base.now in
    let e = c.in-Some.entry.now in
    let is = c.in-Some.ensures.steps in
    let found = subst (λ (es : List Entry). AllByRecursion {X = Entry} (λ e. fin.get layer e.0 ≡ Some e.1) es) is c.loop-entry.invariant.0 in (
      found.1,
      λ root. left_next (over root layer) base layer c.loop-entry.next c.keep_entry.new.next e c.loop-entry.entry-iterator c.next.new.self is
          (entry_keeps (over root layer) base c.loop-entry.next c.keep_entry.new.next e.0 e.1 c.in_ok-keep_entry.ensures (sym (file_told root layer e.0 e.1 found.0)))
          (c.loop-entry.invariant.1 root),
    )

pub returns : goal.returns
returns g c =
    λ root. left_none (over root c.args.overlay.now) (g.B.FileTree.files c.args.base.now) c.args.overlay.now c.loop-entry.next c.loop-entry.entry-iterator c.in-None.ensures.steps.0
    (c.loop-entry.invariant.1 root)
