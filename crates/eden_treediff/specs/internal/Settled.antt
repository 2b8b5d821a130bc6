-- The pairs of sides that are known to hold the same files.
use Rattle.std.specs.Prelude.{◌≡◌, Bool, true, false, ◌||◌, List, [], Option}
use Rattle.std.specs.declared.cmp.Ordering.{Ordering}
use Rattle.std.specs.Ordering.{nat_cmp, ordering_then}
use Rattle.std.specs.Option.{option_cmp}
use Rattle.std.specs.Cmp.Lexicographic.{slice_cmp}
use Rattle.std.specs.BTreeSet.{contains}
use Rattle.eden_ids.specs.declared.id.Id.{Id}
use Rattle.eden_objects.specs.Objects.{Held}
use Rattle.eden_treediff.specs.declared.known_pairs.KnownPairs.{KnownPairs}
use Rattle.eden_treediff.specs.Merges.{merge_rows}
use Rattle.eden_treediff.specs.internal.Walks.{is_one_tree, side_rows}

-- a missing tree sorts before any other, and trees by their ids
abbrev pub side_cmp : Option Id → Option Id → Ordering
side_cmp = option_cmp (λ a b. slice_cmp nat_cmp a.0 b.0)

abbrev pub sides_cmp : Option Id × Option Id → Option Id × Option Id → Ordering
sides_cmp a b = ordering_then (side_cmp a.0 b.0) (side_cmp a.1 b.1)

-- the pair is remembered
abbrev pub is_settled : KnownPairs → Option Id → Option Id → Bool
is_settled settled first second = contains sides_cmp settled.pairs (first, second)

abbrev pub NoneSettled : KnownPairs → Type 0
NoneSettled settled = (first second : Option Id) → is_settled settled first second ≡ false

-- the sides are equal, or the pair is remembered
abbrev pub is_known : KnownPairs → Option Id → Option Id → Bool
is_known settled first second = is_one_tree first second || is_settled settled first second

-- what was remembered still is
abbrev pub KeepsSettled : KnownPairs → KnownPairs → Type 0
KeepsSettled old new = (first second : Option Id) → is_settled old first second ≡ true → is_settled new first second ≡ true

-- the two sides differ at no path
abbrev pub HoldSame : List Held → Option Id → Option Id → Type 0
HoldSame held first second = merge_rows (side_rows held first) (side_rows held second) ≡ []

-- each pair that is remembered holds the same files
abbrev pub AreSettled : List Held → KnownPairs → Type 0
AreSettled held settled = (first second : Option Id) → is_settled settled first second ≡ true → HoldSame held first second
