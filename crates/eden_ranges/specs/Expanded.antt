-- The paths that a range names, each with its mark.
use Rattle.std.specs.Prelude.{Bool, true, ◌&&◌, ◌||◌, ◌++◌, is_some, List, [], ◌∷◌, map}
use Rattle.std.specs.List.{list_all}
use Rattle.eden_ids.specs.declared.id.Id.{Id}
use Rattle.eden_ids.specs.FileMaps.{PathSet, listing, no_paths, union}
use Rattle.eden_objects.specs.Objects.{Held}
use Rattle.eden_ids.specs.Sameness.{same_id}
use Rattle.eden_objects.specs.Commits.{commit_map}
use Rattle.eden_history.specs.declared.mark.Marked.{Marked}
use Rattle.eden_history.specs.Worlds.{Commits}
use Rattle.eden_history.specs.Named.{commits_differ}
use Rattle.eden_history.specs.Marks.{mark_said}
use Rattle.eden_history.specs.Said.{Said, by_root, by_touch, ends}
use Rattle.eden_ranges.specs.declared.ranges.Range.{Range}

-- ---- roots

abbrev pub differing_after : Commits → Id → List Id → PathSet
differing_after commits root [] = no_paths
differing_after commits root (next ∷ roots) = union (commits_differ commits root next) (differing_after commits next roots)

-- the paths at which two neighbouring roots differ
abbrev pub differing : Commits → List Id → PathSet
differing commits [] = no_paths
differing commits (root ∷ roots) = differing_after commits root roots

-- two roots can be compared if they are equal, or both are commits
abbrev pub is_comparable : Commits → Id → Id → Bool
is_comparable commits left reached = same_id left reached || (is_some (commits left) && is_some (commits reached))

abbrev pub comparable_after : Commits → Id → List Id → Bool
comparable_after commits root [] = true
comparable_after commits root (next ∷ roots) = is_comparable commits root next && comparable_after commits next roots

-- each two neighbouring roots can be compared
abbrev pub are_comparable : Commits → List Id → Bool
are_comparable commits [] = true
are_comparable commits (root ∷ roots) = comparable_after commits root roots

-- each root is a commit
abbrev pub are_commits : Commits → List Id → Bool
are_commits commits roots = list_all (λ root. is_some (commits root)) roots

-- ---- ranges

-- what a range says of paths: what changes of files did, and that the root names the
-- unclean paths and those at which neighbouring roots differ
abbrev pub said_by_range : List Held → Range → List Said
said_by_range held range = map by_touch range.changes ++ map by_root (range.unclean ++ listing (differing (commit_map held) range.roots))

-- each path of which it says something, ascending, with its mark
abbrev pub expanded : List Held → Range → List Marked
expanded held range = map mark_said (ends (said_by_range held range))
