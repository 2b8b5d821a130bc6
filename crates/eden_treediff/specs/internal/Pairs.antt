-- The entries of two directories, side by side in the order of their keys.
use Rattle.std.specs.Prelude.{ℕ, Bool, true, false, not, ◌&&◌, List, [], ◌∷◌, Option, Some, None}
use Rattle.std.specs.declared.cmp.Ordering.{Ordering}
use Rattle.std.specs.declared.cmp.Ordering.TheVariants.{Less, Greater}
use Rattle.std.specs.Ordering.{nat_cmp}
use Rattle.std.specs.Cmp.Lexicographic.{slice_cmp}
use Rattle.std.specs.FinMap.Entries.{by_order}
use Rattle.eden_ids.specs.declared.id.Id.{Id}
use Rattle.eden_ids.specs.declared.content.Kind.{Kind}
use Rattle.eden_ids.specs.FileMaps.{same_kind}
use Rattle.eden_ids.specs.Sameness.{same_id}
use Rattle.eden_git.specs.Trees.{Entry, key}

-- the next entry on each side, both if they have the same key, and the rest of each side
abbrev pub Next : Type 0
Next = Option Entry × Option Entry × List Entry × List Entry

abbrev pub next_of_both : Entry → List Entry → Entry → List Entry → Next
next_of_both e es f fs = by_order (slice_cmp nat_cmp (key e) (key f)) (Some e, None, es, f ∷ fs) (Some e, Some f, es, fs) (None, Some f, e ∷ es, fs)

abbrev pub next_pair : List Entry → List Entry → Option Next
next_pair [] [] = None
next_pair (e ∷ es) [] = Some (Some e, None, es, [])
next_pair [] (f ∷ fs) = Some (None, Some f, [], fs)
next_pair (e ∷ es) (f ∷ fs) = Some (next_of_both e es f fs)

abbrev pub first_of : List Entry → Option Entry
first_of [] = None
first_of (e ∷ es) = Some e

-- how the keys of two entries compare; a missing one sorts after any other
abbrev pub order_of : Option Entry → Option Entry → Option Ordering
order_of None None = None
order_of (Some e) None = Some Less
order_of None (Some f) = Some Greater
order_of (Some e) (Some f) = Some (slice_cmp nat_cmp (key e) (key f))

-- both are directories, or files of one kind
abbrev pub same_mode : Option Kind → Option Kind → Bool
same_mode None None = true
same_mode (Some k) (Some l) = same_kind k l
same_mode _ _ = false

-- an entry of one side alone, or two that are not the same
abbrev pub is_changed : Option Entry → Option Entry → Bool
is_changed (Some e) (Some f) = not (same_mode e.kind f.kind && same_id e.id f.id)
is_changed _ _ = true

abbrev pub name_of : Option Entry → Option Entry → List ℕ
name_of (Some e) _ = e.name
name_of None (Some f) = f.name
name_of None None = []

-- a directory of one side, or of both: its name and its trees
abbrev pub Directory : Type 0
Directory = List ℕ × Option Id × Option Id

abbrev pub directory_of : List ℕ → Option Kind → Option Id → Option Id → Option Directory
directory_of name None first second = Some (name, first, second)
directory_of name (Some kind) first second = None

abbrev pub directory : Option Entry → Option Entry → Option Directory
directory None None = None
directory (Some e) None = directory_of e.name e.kind (Some e.id) None
directory None (Some f) = directory_of f.name f.kind None (Some f.id)
directory (Some e) (Some f) = directory_of e.name e.kind (Some e.id) (Some f.id)
