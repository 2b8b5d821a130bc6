-- What every store keeps: one object for each id, and each object refers to earlier ones
-- of the right types, so that every tree can be read whole.
use Rattle.std.specs.Prelude.{◌≡◌, ℕ, ◌≤◌, true, false, List, [], ◌∷◌, map, Some, None}
use Rattle.std.specs.Ordering.{nat_cmp}
use Rattle.std.specs.Cmp.Lexicographic.{slice_cmp}
use Rattle.std.specs.List.{AllByRecursion}
use Rattle.std.specs.List.Sorted.{IsStrictlySortedBy}
use Rattle.eden_ids.specs.declared.id.Id.{Id}
use Rattle.eden_git.specs.declared.object_type.ObjectType.{ObjectType}
use Rattle.eden_git.specs.declared.object_type.ObjectType.TheVariants.{Blob, Tree, Commit}
use Rattle.eden_objects.specs.Objects.{Held, find}
use Rattle.eden_git.specs.ObjectTypes.{type_text}
use Rattle.eden_ids.specs.Sameness.{same_bytes}
use Rattle.eden_git.specs.Trees.{Entry, entries_of, is_name, key}
use Rattle.eden_objects.specs.Trees.{entries_depth, entries_reach, tree_depth, tree_reach}
use Rattle.eden_git.specs.Commits.{tree_named}
use Rattle.eden_objects.specs.Puts.{type_wanted}

-- the id is that of an object of this type
abbrev pub IsHeld : List Held → ObjectType → Id → Type 0
IsHeld held object_type id = (h : Held) × (find id held ≡ Some h) × (h.object_type ≡ object_type)

abbrev pub HasTree : List Held → Id → Type 0
HasTree held id = IsHeld held Tree id

-- no two entries have one name, even if one is a file and the other a directory
abbrev pub NamesDiffer : List Entry → Type 0
NamesDiffer [] = Unit {0}
NamesDiffer (e ∷ es) = AllByRecursion (λ f. same_bytes e.name f.name ≡ false) es × NamesDiffer es

-- entries that a tree may have: their keys ascend, their names are valid, what they refer
-- to is there, no path is too long, and no name occurs twice
abbrev pub IsTree : List Held → List Entry → Type 0
IsTree earlier es = AllByRecursion (λ e. IsHeld earlier (type_wanted e.kind) e.id) es
    × IsStrictlySortedBy (slice_cmp nat_cmp) (map key es)
    × AllByRecursion (λ e. is_name e.name ≡ true) es
    × (entries_depth (tree_depth earlier) es ≤ 64) × (entries_reach (tree_reach earlier) es ≤ 1024)
    × NamesDiffer es

abbrev pub IsSound : ObjectType → List ℕ → List Held → Type 0
IsSound Blob payload earlier = Unit {0}
IsSound Tree payload earlier = IsTree earlier (entries_of payload)
IsSound Commit payload earlier = (tree : Id) × (tree_named payload ≡ Some tree) × HasTree earlier tree

abbrev pub IsClosed : List Held → Type 0
IsClosed [] = Unit {0}
IsClosed (h ∷ earlier) = (find h.id earlier ≡ None) × IsSound h.object_type h.payload earlier × IsClosed earlier

-- each object's id is the one that a naming gives it
abbrev pub AllNamed : (List ℕ → List ℕ → Id) → List Held → Type 0
AllNamed name [] = Unit {0}
AllNamed name (h ∷ earlier) = (name (type_text h.object_type) h.payload ≡ h.id) × AllNamed name earlier
