-- The measures of a tree over the objects of a store, by those of its entries: its depth
-- and its reach.
use Rattle.std.specs.Prelude.{ℕ, ◌+◌, nat_lt, if◌then◌else◌, List, [], ◌∷◌, length, Option, Some, None}
use Rattle.eden_ids.specs.declared.id.Id.{Id}
use Rattle.eden_ids.specs.declared.content.Kind.{Kind}
use Rattle.eden_ids.specs.Sameness.{same_id}
use Rattle.eden_git.specs.Trees.{Entry, entries_of}
use Rattle.eden_objects.specs.Objects.{Held}

-- a measure of the tree with an id, by those of its entries: children are looked up among
-- earlier objects alone. Whether the object is a tree is not checked: in every closed
-- store an entry of a directory or a commit refers to one, and of other ids nothing is
-- said
unfoldable pub tree_fold : {A : Type 0} → A → ((Id → A) → List Entry → A) → List Held → Id → A
tree_fold none step [] id = none
tree_fold none step (h ∷ earlier) id =
    if same_id id h.id then step (tree_fold none step earlier) (entries_of h.payload) else tree_fold none step earlier id

abbrev pub greater : ℕ → ℕ → ℕ
greater a b = if nat_lt a b then b else a

-- the greatest measure of the entries, 0 without entries
abbrev pub greatest : (Entry → ℕ) → List Entry → ℕ
greatest measure [] = 0
greatest measure (e ∷ es) = greater (measure e) (greatest measure es)

-- 1 for a file, 1 more than the child's for a directory
abbrev pub depth_of : Option Kind → ℕ → ℕ
depth_of None child = 1 + child
depth_of (Some kind) child = 1

-- the name's length for a file; its length, a slash and the child's for a directory
abbrev pub reach_of : List ℕ → Option Kind → ℕ → ℕ
reach_of name None child = length name + 1 + child
reach_of name (Some kind) child = length name

abbrev pub entries_depth : (Id → ℕ) → List Entry → ℕ
entries_depth depth es = greatest (λ e. depth_of e.kind (depth e.id)) es

abbrev pub entries_reach : (Id → ℕ) → List Entry → ℕ
entries_reach reach es = greatest (λ e. reach_of e.name e.kind (reach e.id)) es

-- the components and the bytes of the longest path below a tree, an empty directory
-- counted too
abbrev pub tree_depth : List Held → Id → ℕ
tree_depth held id = tree_fold 0 entries_depth held id

abbrev pub tree_reach : List Held → Id → ℕ
tree_reach held id = tree_fold 0 entries_reach held id
