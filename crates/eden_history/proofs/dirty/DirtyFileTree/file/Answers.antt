use Rattle.std.proofs.Common.{sym, ◌∙◌}
use Rattle.eden_history.proofs.DirtyFiles.{dirty_rise, listed_is_there, unlisted_is_absent}
use Rattle.eden_history.proofs.dirty.DirtyFileTree.file.Goals as goal

pub is_listed-requires : goal.is_listed-requires
is_listed-requires g c = dirty_rise _ _ c.args.self.now.listed.now c.args.self.now.each

pub returns-then-is_listed : goal.returns-then-is_listed
returns-then-is_listed g c =
    let dirty = c.args.self.now in
    c.file.ensures
    ∙ sym (listed_is_there (g.W.FileTree.files dirty.work.now) (g.R.FileTree.files dirty.root.now) dirty.listed.now c.args.path.now dirty.each (sym c.is_listed.ensures ∙ c.if-is_listed.true))

pub returns-else-is_listed : goal.returns-else-is_listed
returns-else-is_listed g c =
    let dirty = c.args.self.now in
    sym (unlisted_is_absent (g.W.FileTree.files dirty.work.now) (g.R.FileTree.files dirty.root.now) dirty.listed.now c.args.path.now dirty.each (sym c.is_listed.ensures ∙ c.if-is_listed.false))
