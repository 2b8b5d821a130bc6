-- The places at which the entries of a tree's payload begin and end, and the order of their keys.
use Rattle.std.specs.Prelude.{◌+◌, ℕ, List, [], ◌∷◌, ◌++◌, map, length, codes, Option, Some, None}
use Rattle.std.specs.Ordering.{nat_cmp}
use Rattle.std.specs.Cmp.Lexicographic.{slice_cmp}
use Rattle.std.specs.List.Sorted.{IsStrictlySortedBy}
use Rattle.eden_ids.specs.declared.content.Kind.{Kind}
use Rattle.eden_ids.specs.declared.content.Kind.TheVariants.{Plain, Exec, Link}
use Rattle.eden_git.specs.Trees.{Entry, key}

-- the mode of a kind of entry
abbrev pub mode_of : Option Kind → List ℕ
mode_of None = codes "40000"
mode_of (Some Plain) = codes "100644"
mode_of (Some Exec) = codes "100755"
mode_of (Some Link) = codes "120000"

-- the bytes of an entry
abbrev pub written : Entry → List ℕ
written e = mode_of e.kind ++ 32 ∷ (e.name ++ 0 ∷ e.id.0)

-- their number: an id has 20 bytes
abbrev pub breadth : Entry → ℕ
breadth e = length (mode_of e.kind) + length e.name + 22

-- the number of bytes of entries
abbrev pub extent : List Entry → ℕ
extent [] = 0
extent (e ∷ es) = breadth e + extent es

-- the places at which entries begin, of which the first is given, and after them the place at which
-- the last one ends
abbrev pub places : ℕ → List Entry → List ℕ
places start [] = start ∷ []
places start (e ∷ es) = start ∷ places (start + breadth e) es

-- the keys of entries ascend
abbrev pub AreInOrder : List Entry → Type 0
AreInOrder es = IsStrictlySortedBy (slice_cmp nat_cmp) (map key es)
