-- One step of the walk over two trees.
use Rattle.std.proofs.Common.{◌≡◌, ℕ, ◌≤◌, ◌++◌, Bool, true, false, cond, List, [], ◌∷◌, map, Option, Some, None, refl, ap, ◌∙◌, arith, append_assoc}
use Rattle.std.proofs.lemmas.List.{map-append}
use Rattle.std.proofs.lemmas.List.Elements.{filter-append}
use Rattle.std.specs.Prelude.{filter}
use Rattle.std.specs.List.Sorted.{IsStrictlySortedBy}
use Rattle.eden_ids.specs.declared.id.Id.{Id}
use Rattle.eden_ids.specs.Paths.{lies_below}
use Rattle.eden_objects.specs.Objects.{Held}
use Rattle.eden_git.specs.Trees.{Entry}
use Rattle.eden_objects.specs.Trees.{entries_depth, tree_depth}
use Rattle.eden_objects.specs.Commits.{entries_rows, tree_rows}
use Rattle.eden_objects.specs.Closed.{IsClosed}
use Rattle.eden_objects.proofs.WalkSteps.{depth_here, rows_here, tree_here}
use Rattle.eden_objects.proofs.Gathering.{inside as lies_inside}
use Rattle.eden_treediff.specs.Merges.{merge_rows}
use Rattle.eden_treediff.specs.internal.Pairs.{Directory, Next, directory, is_changed, name_of, next_pair}
use Rattle.eden_treediff.specs.internal.Walks.{IsSide, behind, side_depth, side_entries, side_rows, wanted_behind}
use Rattle.eden_treediff.proofs.Blocks.{below}
use Rattle.eden_treediff.proofs.Pairs.{IsDirectory, IsNext, IsRest, next_is, rest_after, entry_held, entry_named, depth_after, entry_depth, merge_next, nothing_changed, file_changed, directory_met, rows_of_entry}

-- the files of some entries against those of others
abbrev pub merge_entries : List Held → List Entry → List Entry → List (List ℕ)
merge_entries held es fs = merge_rows (entries_rows (tree_rows held) es) (entries_rows (tree_rows held) fs)

-- what the walk knows of what is left
abbrev pub IsWay : List Held → ℕ → ℕ → List Entry → List Entry → Type 0
IsWay held m n es fs = IsRest held es × IsRest held fs × (entries_depth (tree_depth held) es ≤ m) × (entries_depth (tree_depth held) fs ≤ n)

pub side_whole : (held : List Held) (side : Option Id) → IsClosed held → IsSide held side
    → (side_rows held side ≡ entries_rows (tree_rows held) (side_entries held side)) × IsRest held (side_entries held side) × (entries_depth (tree_depth held) (side_entries held side) ≤ side_depth held side)
unfolding IsStrictlySortedBy
side_whole held None closed is = (refl, (tt, tt, tt), omega arith)
side_whole held (Some id) closed is =
    let tree = tree_here held closed id is in
    let depth = depth_here held closed id is in
    (rows_here held closed id is, (tree.0, tree.1, tree.2), omega (arith, depth))

pub way_begins : (held : List Held) (first second : Option Id) → IsClosed held → IsSide held first → IsSide held second
    → IsWay held (side_depth held first) (side_depth held second) (side_entries held first) (side_entries held second)
way_begins held first second closed one two =
    let left = side_whole held first closed one in
    let right = side_whole held second closed two in
    (left.1, right.1, left.2, right.2)

pub all_merged : (held : List Held) (first second : Option Id) → IsClosed held → IsSide held first → IsSide held second
    → merge_rows (side_rows held first) (side_rows held second) ≡ merge_entries held (side_entries held first) (side_entries held second)
all_merged held first second closed one two =
    ap (λ rs. merge_rows rs (side_rows held second)) (side_whole held first closed one).0
    ∙ ap (merge_rows (entries_rows (tree_rows held) (side_entries held first))) (side_whole held second closed two).0

-- the paths of one pair
abbrev pub here : List Held → Next → List (List ℕ)
here held next = merge_rows (rows_of_entry (tree_rows held) next.0) (rows_of_entry (tree_rows held) next.1)

-- The next pair of what is left.
pub record Step (held : List Held) (m n : ℕ) (es fs : List Entry) (next : Next) : Type 0 where
  pub way : IsWay held m n es fs
  pub is : Some next ≡ next_pair es fs

module _ {held : List Held} {m n : ℕ} {es fs : List Entry} {next : Next} (step : Step held m n es fs next) where
  pub is_next : IsNext es fs next
  is_next = next_is es fs next step.way.0.1 step.way.1.1 step.is

  pub way_goes_on : IsWay held m n next.2 next.3
  way_goes_on = (
    rest_after held es next.0 next.2 is_next.0 step.way.0,
    rest_after held fs next.1 next.3 is_next.1 step.way.1,
    depth_after (tree_depth held) es next.0 next.2 m is_next.0 step.way.2,
    depth_after (tree_depth held) fs next.1 next.3 n is_next.1 step.way.3,
  )

  -- its paths are before those of what is left after it
  pub one_more : merge_entries held es fs ≡ here held next ++ merge_entries held next.2 next.3
  one_more = merge_next held (tree_rows held) es fs next step.way.0 step.way.1 is_next

  -- what is the same has no paths
  pub unchanged : is_changed next.0 next.1 ≡ false → here held next ≡ []
  unchanged =
      nothing_changed (tree_rows held) next.0 next.1 is_next.2 (entry_named held es next.0 next.2 is_next.0 step.way.0) (entry_named held fs next.1 next.3 is_next.1 step.way.1)

  -- a file that is changed is one path
  pub one_file : is_changed next.0 next.1 ≡ true → directory next.0 next.1 ≡ None → here held next ≡ name_of next.0 next.1 ∷ []
  one_file =
      file_changed (tree_rows held) next.0 next.1 is_next.2 (entry_named held es next.0 next.2 is_next.0 step.way.0) (entry_named held fs next.1 next.3 is_next.1 step.way.1)

  pub directory_is : {d : Directory} → directory next.0 next.1 ≡ Some d → IsDirectory held m n (rows_of_entry (tree_rows held) next.0) (rows_of_entry (tree_rows held) next.1) d
  directory_is {d} =
      directory_met held m n next.0 next.1 d is_next.2
      (entry_named held es next.0 next.2 is_next.0 step.way.0) (entry_named held fs next.1 next.3 is_next.1 step.way.1)
      (entry_held held es next.0 next.2 is_next.0 step.way.0) (entry_held held fs next.1 next.3 is_next.1 step.way.1)
      (entry_depth (tree_depth held) es next.0 next.2 m is_next.0 step.way.2) (entry_depth (tree_depth held) fs next.1 next.3 n is_next.1 step.way.3)

pub wanted-append : (test : List ℕ → Bool) (front : List ℕ) (ps qs : List (List ℕ)) → wanted_behind test front (ps ++ qs) ≡ wanted_behind test front ps ++ wanted_behind test front qs
wanted-append test front ps qs = ap (filter test) (map-append (λ p. front ++ p) ps qs) ∙ filter-append test (behind front ps) (behind front qs)

pub behind_below : (front name : List ℕ) (ps : List (List ℕ)) → behind (front ++ name ++ 47 ∷ []) ps ≡ behind front (map (below name) ps)
behind_below front name [] = refl
behind_below front name (p ∷ ps) =
    let path : (front ++ name ++ 47 ∷ []) ++ p ≡ front ++ (name ++ 47 ∷ p) =
    append_assoc (front ++ name) (47 ∷ []) p ∙ append_assoc front name (47 ∷ p) in
    let rest = behind_below front name ps in
    λ i. path i ∷ rest i

-- nothing is wanted of what lies below a directory
pub none_wanted : (test : List ℕ → Bool) (dir : List ℕ) (ps : List (List ℕ)) → ((path : List ℕ) → lies_below path dir ≡ true → test path ≡ false)
    → wanted_behind test (dir ++ 47 ∷ []) ps ≡ []
none_wanted test dir [] outside = refl
none_wanted test dir (p ∷ ps) outside =
    let passed : test ((dir ++ 47 ∷ []) ++ p) ≡ false = ap test (append_assoc dir (47 ∷ []) p) ∙ outside (dir ++ 47 ∷ p) (lies_inside dir p) in
    ap (λ b. cond b (((dir ++ 47 ∷ []) ++ p) ∷ wanted_behind test (dir ++ 47 ∷ []) ps) (wanted_behind test (dir ++ 47 ∷ []) ps)) passed
    ∙ none_wanted test dir ps outside
