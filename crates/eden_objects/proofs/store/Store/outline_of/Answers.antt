use Rattle.std.proofs.Common.{rules, ◌≡◌, ◌≤◌, [], length, None}
use Rattle.eden_objects.specs.Trees.{entries_depth, entries_reach, tree_depth, tree_reach}
use Rattle.eden_git.specs.Trees.{entries_of}
use Rattle.eden_objects.specs.Puts.{entries_fault}
use Rattle.eden_objects.proofs.Judged.{tree_sound}
use Rattle.eden_objects.proofs.store.Store.outline_of.Goals as goal

pub returns-clause-sound : goal.returns-clause-sound
returns-clause-sound g c =
    let passes : entries_fault (length c.args.payload.now) c.args.self.now [] c.args.payload.now ≡ None = search rules in
    let depth : c.in_ok-outline.outline.size.depth ≡ entries_depth (tree_depth c.args.self.now) (entries_of c.args.payload.now) = search rules in
    let reach : c.in_ok-outline.outline.size.reach ≡ entries_reach (tree_reach c.args.self.now) (entries_of c.args.payload.now) = search rules in
    let small : c.in_ok-outline.outline.size.depth ≤ 64 = search rules in
    let short : c.in_ok-outline.outline.size.reach ≤ 1024 = search rules in
    tree_sound c.args.payload.now c.args.self.now c.in_ok-outline.outline.size.depth c.in_ok-outline.outline.size.reach passes depth reach small short
