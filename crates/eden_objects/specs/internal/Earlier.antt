-- What is kept of the earlier entries while a tree is checked.
use Rattle.std.specs.Prelude.{◌≡◌, ℕ, Bool, true, List, [], ◌∷◌, Option, Some, None}
use Rattle.std.specs.Borrow.{Bor}
use Rattle.std.specs.Ordering.{nat_cmp, is_lt}
use Rattle.std.specs.Cmp.Lexicographic.{slice_cmp}
use Rattle.std.specs.List.{list_any}
use Rattle.std.specs.BTreeSet.{contains}
use Rattle.eden_ids.specs.Sameness.{same_bytes}
use Rattle.eden_git.specs.Entries.{option_plain}
use Rattle.eden_git.specs.Trees.{Entry, key}
use Rattle.eden_objects.specs.declared.earlier_entries.Seen.{Seen}

abbrev pub first_of : List Entry → Option Entry
first_of [] = None
first_of (e ∷ es) = Some e

abbrev pub is_above_last : Entry → Option Entry → Bool
is_above_last e None = true
is_above_last e (Some before) = is_lt (slice_cmp nat_cmp (key before) (key e))

abbrev pub has_name : List ℕ → List Entry → Bool
has_name name earlier = list_any (λ f. same_bytes f.name name) earlier

-- these are the earlier entries, newest first
abbrev pub HasSeen : Seen → List Entry → Type 0
HasSeen seen earlier = ((name : Bor (List ℕ)) → contains (λ a b. slice_cmp nat_cmp a.now b.now) seen.names name ≡ has_name name.now earlier)
    × (option_plain seen.last ≡ first_of earlier)
