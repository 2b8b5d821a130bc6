-- One step of a walk down a path, from a directory to what its entries say of the path's first name.
use Rattle.std.proofs.Common.{◌≡◌, ℕ, ◌+◌, ◌<◌, ◌++◌, Bool, true, false, List, [], ◌∷◌, length, Option, Some, None, sym, ap, subst, ◌∙◌, arith, length-append}
use Rattle.std.specs.List.{AllByRecursion}
use Rattle.eden_ids.specs.declared.id.Id.{Id}
use Rattle.eden_ids.specs.declared.content.Kind.{Kind}
use Rattle.eden_objects.specs.Objects.{Held, find, payload_of}
use Rattle.eden_ids.specs.Sameness.{same_bytes}
use Rattle.eden_git.specs.Trees.{Entry, cut, entries_of}
use Rattle.eden_objects.specs.Trees.{entries_depth, entries_reach, tree_depth, tree_fold, tree_reach}
use Rattle.eden_objects.specs.Commits.{find_row, tree_rows, entries_rows}
use Rattle.eden_objects.specs.Puts.{type_wanted}
use Rattle.eden_git.specs.Starts.{AreInOrder}
use Rattle.eden_objects.specs.Closed.{IsHeld, HasTree, IsTree, IsClosed}
use Rattle.eden_git.specs.Directories.{or_later, file_named, dir_if, dir_named}
use Rattle.eden_objects.specs.Walks.{then_find}
use Rattle.eden_objects.proofs.Closed.{IsLocal, depth_local, fold_of_tree, reach_local, rows_local, tree_in}
use Rattle.eden_git.proofs.Slashes.{cut_some}
use Rattle.eden_objects.proofs.Lookup.{look_file, look_dir}

-- the entries of a tree that is held
abbrev pub entries_in : List Held → Id → List Entry
entries_in held id = entries_of (payload_of (find id held))

pub tree_here : (held : List Held) → IsClosed held → (id : Id) → HasTree held id → IsTree held (entries_in held id)
tree_here held closed id has = subst (λ o. IsTree held (entries_of (payload_of o))) (sym has.1) (tree_in held closed id has.0 has.1 has.2)

-- what it comes to, by what its entries come to
fold_here : {A : Type 0} (none : A) (step : (Id → A) → List Entry → A) → IsLocal step → (held : List Held) → IsClosed held → (id : Id) → HasTree held id
    → tree_fold none step held id ≡ step (tree_fold none step held) (entries_in held id)
fold_here none step local held closed id has =
    fold_of_tree none step local held closed id has.0 has.1 has.2 ∙ ap (λ o. step (tree_fold none step held) (entries_of (payload_of o))) (sym has.1)

pub rows_here : (held : List Held) → IsClosed held → (id : Id) → HasTree held id → tree_rows held id ≡ entries_rows (tree_rows held) (entries_in held id)
rows_here = fold_here [] entries_rows rows_local

pub depth_here : (held : List Held) → IsClosed held → (id : Id) → HasTree held id → tree_depth held id ≡ entries_depth (tree_depth held) (entries_in held id)
depth_here = fold_here 0 entries_depth depth_local

pub reach_here : (held : List Held) → IsClosed held → (id : Id) → HasTree held id → tree_reach held id ≡ entries_reach (tree_reach held) (entries_in held id)
reach_here = fold_here 0 entries_reach reach_local

pub file_here : (held : List Held) (id : Id) (p : List ℕ) → IsClosed held → HasTree held id → None ≡ cut 47 p
    → find_row p (tree_rows held id) ≡ file_named p (entries_in held id)
file_here held id p closed has none = ap (find_row p) (rows_here held closed id has) ∙ look_file (tree_rows held) p (entries_in held id) (sym none)

pub dir_here : (held : List Held) (id : Id) (p c r : List ℕ) → IsClosed held → HasTree held id → Some (c, r) ≡ cut 47 p
    → find_row p (tree_rows held id) ≡ then_find (tree_rows held) r (dir_named c (entries_in held id))
dir_here held id p c r closed has some =
    let is = tree_here held closed id has in
    ap (find_row p) (rows_here held closed id has) ∙ look_dir (tree_rows held) p c r (entries_in held id) (sym some) is.2 is.5

-- what is left of a path is shorter
pub rest_shorter : (p c r : List ℕ) → Some (c, r) ≡ cut 47 p → length r < length p
rest_shorter p c r some =
    let is : p ≡ c ++ 47 ∷ r = (cut_some p c r (sym some)).0 in
    let whole : length p ≡ length (c ++ 47 ∷ r) = ap length is in
    let parts : length (c ++ 47 ∷ r) ≡ length c + length (47 ∷ r) = length-append c (47 ∷ r) in
    omega (arith, whole, parts)

held_if : (held : List Held) (kind : Option Kind) (id child : Id) (t : Bool) (later : Option Id) → IsHeld held (type_wanted kind) id → (Some child ≡ later → HasTree held child)
    → Some child ≡ or_later (dir_if kind id t) later → HasTree held child
held_if held None id child true later is more found = let same : id ≡ child = cc in subst (HasTree held) same is
held_if held None id child false later is more found = more found
held_if held (Some kind) id child t later is more found = more found

dir_held : (held : List Held) (c : List ℕ) (child : Id) (es : List Entry) → AllByRecursion (λ e. IsHeld held (type_wanted e.kind) e.id) es → Some child ≡ dir_named c es → HasTree held child
dir_held held c child [] all found = absurd (cc)
dir_held held c child (e ∷ es) all found = held_if held e.kind e.id child (same_bytes e.name c) (dir_named c es) all.0 (dir_held held c child es all.1) found

pub child_here : (held : List Held) (id : Id) (c : List ℕ) (child : Id) → IsClosed held → HasTree held id → Some child ≡ dir_named c (entries_in held id) → HasTree held child
child_here held id c child closed has found = dir_held held c child (entries_in held id) (tree_here held closed id has).0 found

-- the entries of a tree that is held are in order
pub order_here : (held : List Held) (id : Id) (es : List Entry) → IsClosed held → HasTree held id → es ≡ entries_in held id → AreInOrder es
order_here held id es closed has is = subst AreInOrder (sym is) (tree_here held closed id has).1
