-- What the rows at which two columns differ are, no matter what the columns hold.
use Rattle.std.specs.Prelude.{◌≡◌, ◌≢◌, ℕ, List, length, nat_eq, slice_get, MatchBool}
use Rattle.std.specs.List.{list_any}
use Rattle.std.specs.List.Sorted.{IsStrictlyIncreasing}
use Rattle.eden_ids.specs.declared.id.Id.{Id}
use Rattle.eden_lanes.specs.Rows.{differing_ids, differing_kinds}

-- these rows are those at which two lists differ: a row among them differs, any other is
-- the same
abbrev pub AreThoseApart : {A : Type 0} → List ℕ → List A → List A → Type 0
AreThoseApart rows a b = (row : ℕ) → MatchBool (list_any (nat_eq row) rows) (slice_get a row ≢ slice_get b row) (slice_get a row ≡ slice_get b row)

-- of two columns of ids
abbrev pub IdRowsAreThoseApart : Type 0
IdRowsAreThoseApart = (a b : List Id) → length a ≡ length b → AreThoseApart (differing_ids a b) a b

-- each is listed once, in ascending order
abbrev pub IdRowsAscend : Type 0
IdRowsAscend = (a b : List Id) → IsStrictlyIncreasing (differing_ids a b)

-- of two columns of kinds
abbrev pub KindRowsAreThoseApart : Type 0
KindRowsAreThoseApart = (a b : List ℕ) → length a ≡ length b → AreThoseApart (differing_kinds a b) a b

abbrev pub KindRowsAscend : Type 0
KindRowsAscend = (a b : List ℕ) → IsStrictlyIncreasing (differing_kinds a b)
