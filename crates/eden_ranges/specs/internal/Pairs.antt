-- Pairs of roots that were compared, and what is then known of them.
use Rattle.std.specs.Prelude.{◌≡◌, Bool, true, ◌&&◌, List}
use Rattle.std.specs.List.{list_any}
use Rattle.eden_ids.specs.declared.id.Id.{Id}
use Rattle.eden_ids.specs.FileMaps.{PathSet, union}
use Rattle.eden_ids.specs.Sameness.{same_id}
use Rattle.eden_globs.specs.Filters.{Patterns}
use Rattle.eden_history.specs.Worlds.{Commits}
use Rattle.eden_history.specs.Named.{commits_differ}
use Rattle.eden_ranges.specs.Expanded.{is_comparable}
use Rattle.eden_ranges.specs.internal.Wanted.{only}

abbrev pub same_pair : Id × Id → Id × Id → Bool
same_pair p q = same_id p.0 q.0 && same_id p.1 q.1

-- the two roots are among the pairs, in this order
abbrev pub has_pair : List (Id × Id) → Id → Id → Bool
has_pair pairs left reached = list_any (same_pair (left, reached)) pairs

-- Two roots can be compared, and the admitted paths at which they differ are among these.
pub record IsCovered (patterns : Patterns) (commits : Commits) (paths : PathSet) (left reached : Id) : Type 0 where
  pub among : union (only patterns (commits_differ commits left reached)) paths ≡ paths
  pub comparable : is_comparable commits left reached ≡ true

abbrev pub AreCovered : Patterns → Commits → List (Id × Id) → PathSet → Type 0
AreCovered patterns commits pairs paths = (left reached : Id) → has_pair pairs left reached ≡ true → IsCovered patterns commits paths left reached
