-- The files of two directories are merged pair by pair of their entries.
use Rattle.std.proofs.Common.{◌≡◌, ℕ, ◌+◌, ◌<◌, ◌≤◌, ◌++◌, Bool, true, false, cond, not, ◌&&◌, ◌||◌, nat_eq, List, [], ◌∷◌, map, Option, Some, None, refl, sym, ap, subst, ◌∙◌, arith}
use Rattle.std.proofs.lemmas.List.{append_cancel_right}
use Rattle.std.specs.declared.cmp.Ordering.TheVariants.{Less, Equal, Greater}
use Rattle.std.specs.Ordering.{nat_cmp, ordering_reverse}
use Rattle.std.specs.Cmp.Lexicographic.{slice_cmp, nat_list_cmp_total}
use Rattle.std.specs.Cmp.{tied_itself}
use Rattle.std.specs.FinMap.Entries.{by_order}
use Rattle.std.specs.List.{AllByRecursion}
use Rattle.std.specs.List.Sorted.{IsStrictlySortedBy}
use Rattle.eden_ids.specs.declared.id.Id.{Id}
use Rattle.eden_ids.specs.declared.content.Kind.{Kind}
use Rattle.eden_ids.specs.FileMaps.{same_kind}
use Rattle.eden_objects.specs.Objects.{Held}
use Rattle.eden_ids.specs.Sameness.{same_id}
use Rattle.eden_git.specs.Trees.{Entry, is_name, key, key_of}
use Rattle.eden_objects.specs.Trees.{entries_depth, tree_depth}
use Rattle.eden_objects.specs.Commits.{Row, under, rows_of_kind, entry_rows, entries_rows, tree_rows}
use Rattle.eden_objects.specs.Puts.{type_wanted}
use Rattle.eden_objects.specs.Closed.{IsHeld, HasTree}
use Rattle.eden_objects.proofs.Closed.{child_below, later_below}
use Rattle.eden_objects.proofs.Rising.{file_entries, all_dir}
use Rattle.eden_git.proofs.Slashes.{has_slash, name_has_none}
use Rattle.eden_treediff.specs.Merges.{merge_rows}
use Rattle.eden_treediff.specs.internal.Pairs.{Directory, Next, next_of_both, next_pair, is_changed, same_mode, name_of, directory, directory_of}
use Rattle.eden_treediff.specs.internal.Walks.{IsSide, side_rows, side_depth}
use Rattle.eden_treediff.proofs.Blocks.{order, below, AllBelow, merge_blocks, merge_under}
use Rattle.eden_treediff.proofs.Exact.{same_law}
use Rattle.eden_segments.proofs.Distinct.{same_id-is}
use Rattle.std.proofs.Math.Bool.{or-true}
use Rattle.eden_ids.proofs.FileMapLemmas.{same_kind-is, same_order}
use Rattle.std.proofs.lemmas.Bool.{not-true}

-- what is left of a tree's entries
abbrev pub IsRest : List Held → List Entry → Type 0
IsRest held es = AllByRecursion (λ e. IsHeld held (type_wanted e.kind) e.id) es
    × IsStrictlySortedBy (slice_cmp nat_cmp) (map key es) × AllByRecursion (λ e. is_name e.name ≡ true) es

abbrev pub listed : Option Entry → List Entry
listed None = []
listed (Some e) = e ∷ []

abbrev pub KeyBelow : Option Entry → List Entry → Type 0
KeyBelow None fs = Unit {0}
KeyBelow (Some e) fs = AllByRecursion (λ k. slice_cmp nat_cmp (key e) k ≡ Less) (map key fs)

-- there is an entry, and two have one key
abbrev pub Meet : Option Entry → Option Entry → Type 0
Meet None None = ⊥
Meet (Some e) (Some f) = key e ≡ key f
Meet _ _ = Unit {0}

abbrev pub IsNext : List Entry → List Entry → Next → Type 0
IsNext es fs next = (es ≡ listed next.0 ++ next.2) × (fs ≡ listed next.1 ++ next.3) × Meet next.0 next.1 × KeyBelow next.0 next.3 × KeyBelow next.1 next.2

all_above : (p q : List ℕ) (ks : List (List ℕ)) → order p q ≡ Less → AllByRecursion (λ k. slice_cmp nat_cmp q k ≡ Less) ks → AllByRecursion (λ k. slice_cmp nat_cmp p k ≡ Less) ks
all_above p q [] less h = tt
all_above p q (k ∷ ks) less h = (nat_list_cmp_total.trans p q k less h.0, all_above p q ks less h.1)

both_next : (e f : Entry) (es fs : List Entry) → AllByRecursion (λ k. slice_cmp nat_cmp (key e) k ≡ Less) (map key es) → AllByRecursion (λ k. slice_cmp nat_cmp (key f) k ≡ Less) (map key fs)
    → IsNext (e ∷ es) (f ∷ fs) (next_of_both e es f fs)
both_next e f es fs h g =
    elim (order (key e) (key f)) as (λ o. order (key e) (key f) ≡ o → IsNext (e ∷ es) (f ∷ fs) (by_order o (Some e, None, es, f ∷ fs) (Some e, Some f, es, fs) (None, Some f, e ∷ es, fs))) [
      | Less ↦ λ less. (refl, refl, tt, (less, all_above (key e) (key f) (map key fs) less g), tt)
      | Equal ↦ λ same.
          let one : key e ≡ key f = same_order (key e) (key f) same in
          (refl, refl, one, subst (λ p. AllByRecursion (λ k. slice_cmp nat_cmp p k ≡ Less) (map key fs)) (sym one) g, subst (λ p. AllByRecursion (λ k. slice_cmp nat_cmp p k ≡ Less) (map key es)) one h)
      | Greater ↦ λ above.
          let less : order (key f) (key e) ≡ Less = nat_list_cmp_total.antisymm (key f) (key e) ∙ ap ordering_reverse above in
          (refl, refl, tt, tt, (less, all_above (key f) (key e) (map key es) less h))
    ] refl

next_inside : (a b : Next) → Some a ≡ Some b → a ≡ b
next_inside a b h = cc

pub next_is : (es fs : List Entry) (next : Next) → IsStrictlySortedBy (slice_cmp nat_cmp) (map key es) → IsStrictlySortedBy (slice_cmp nat_cmp) (map key fs) → Some next ≡ next_pair es fs → IsNext es fs next
unfolding IsStrictlySortedBy
next_is [] [] next rise rises is = absurd (cc)
next_is (e ∷ es) [] next rise rises is = subst (IsNext (e ∷ es) []) (next_inside (Some e, None, es, []) next (sym is)) (refl, refl, tt, tt, tt)
next_is [] (f ∷ fs) next rise rises is = subst (IsNext [] (f ∷ fs)) (next_inside (None, Some f, [], fs) next (sym is)) (refl, refl, tt, tt, tt)
next_is (e ∷ es) (f ∷ fs) next rise rises is = subst (IsNext (e ∷ es) (f ∷ fs)) (next_inside (next_of_both e es f fs) next (sym is)) (both_next e f es fs rise.0 rises.0)

-- what holds of the entries holds of the next one and of what is left

abbrev pub OfEntry : (Entry → Type 0) → Option Entry → Type 0
OfEntry P None = Unit {0}
OfEntry P (Some e) = P e

split : (P : Entry → Type 0) (o : Option Entry) (es : List Entry) → AllByRecursion P (listed o ++ es) → OfEntry P o × AllByRecursion P es
split P None es h = (tt, h)
split P (Some e) es h = h

sorted_after : (o : Option Entry) (es : List Entry) → IsStrictlySortedBy (slice_cmp nat_cmp) (map key (listed o ++ es)) → IsStrictlySortedBy (slice_cmp nat_cmp) (map key es)
unfolding IsStrictlySortedBy
sorted_after None es h = h
sorted_after (Some e) es h = h.1

pub rest_after : (held : List Held) (all : List Entry) (o : Option Entry) (es : List Entry) → all ≡ listed o ++ es → IsRest held all → IsRest held es
rest_after held all o es is h =
    let rest = subst (IsRest held) is h in
    ((split (λ e. IsHeld held (type_wanted e.kind) e.id) o es rest.0).1, sorted_after o es rest.1, (split (λ e. is_name e.name ≡ true) o es rest.2).1)

pub entry_held : (held : List Held) (all : List Entry) (o : Option Entry) (es : List Entry) → all ≡ listed o ++ es → IsRest held all → OfEntry (λ e. IsHeld held (type_wanted e.kind) e.id) o
entry_held held all o es is h = (split (λ e. IsHeld held (type_wanted e.kind) e.id) o es (subst (IsRest held) is h).0).0

pub entry_named : (held : List Held) (all : List Entry) (o : Option Entry) (es : List Entry) → all ≡ listed o ++ es → IsRest held all → OfEntry (λ e. is_name e.name ≡ true) o
entry_named held all o es is h = (split (λ e. is_name e.name ≡ true) o es (subst (IsRest held) is h).2).0

later_depth : (depth : Id → ℕ) (o : Option Entry) (es : List Entry) → entries_depth depth es ≤ entries_depth depth (listed o ++ es)
later_depth depth None es = omega arith
later_depth depth (Some e) es = later_below depth e es

pub depth_after : (depth : Id → ℕ) (all : List Entry) (o : Option Entry) (es : List Entry) (n : ℕ) → all ≡ listed o ++ es → entries_depth depth all ≤ n → entries_depth depth es ≤ n
depth_after depth all o es n is h =
    let same : entries_depth depth all ≡ entries_depth depth (listed o ++ es) = ap (entries_depth depth) is in
    let less = later_depth depth o es in
    omega (arith, same, less, h)

pub entry_depth : (depth : Id → ℕ) (all : List Entry) (o : Option Entry) (es : List Entry) (n : ℕ) → all ≡ listed o ++ es → entries_depth depth all ≤ n → OfEntry (λ e. e.kind ≡ None → depth e.id < n) o
entry_depth depth all None es n is h = tt
entry_depth depth all (Some e) es n is h = λ dir.
    let same : entries_depth depth all ≡ entries_depth depth (e ∷ es) = ap (entries_depth depth) is in
    let less = child_below depth e es dir in
    omega (arith, same, less, h)

-- the files of the next entry are before those that are left

abbrev pub rows_of_entry : (Id → List Row) → Option Entry → List Row
rows_of_entry rows None = []
rows_of_entry rows (Some e) = entry_rows rows e

split_rows : (rows : Id → List Row) (o : Option Entry) (es : List Entry) → entries_rows rows (listed o ++ es) ≡ rows_of_entry rows o ++ entries_rows rows es
split_rows rows None es = refl
split_rows rows (Some e) es = refl

kind_below : (n : List ℕ) (kind : Option Kind) (id : Id) (below : List Row) (rows : Id → List Row) (es : List Entry) → is_name n ≡ true → AllByRecursion (λ e. is_name e.name ≡ true) es
    → AllByRecursion (λ k. slice_cmp nat_cmp (key_of n kind) k ≡ Less) (map key es) → AllBelow (rows_of_kind n kind id below) (entries_rows rows es)
kind_below n None id below rows es name names h = all_dir n below rows es (name_has_none n name) names h
kind_below n (Some kind) id below rows es name names h = (file_entries n rows es h, tt)

entry_below : (rows : Id → List Row) (o : Option Entry) (es : List Entry) → OfEntry (λ e. is_name e.name ≡ true) o → AllByRecursion (λ e. is_name e.name ≡ true) es → KeyBelow o es
    → AllBelow (rows_of_entry rows o) (entries_rows rows es)
entry_below rows None es name names h = tt
entry_below rows (Some e) es name names h = kind_below e.name e.kind e.id (rows e.id) rows es name names h

pub merge_next : (held : List Held) (rows : Id → List Row) (es fs : List Entry) (next : Next) → IsRest held es → IsRest held fs → IsNext es fs next
    → merge_rows (entries_rows rows es) (entries_rows rows fs)
    ≡ merge_rows (rows_of_entry rows next.0) (rows_of_entry rows next.1) ++ merge_rows (entries_rows rows next.2) (entries_rows rows next.3)
merge_next held rows es fs next left right is =
    ap (λ xs. merge_rows xs (entries_rows rows fs)) (ap (entries_rows rows) is.0 ∙ split_rows rows next.0 next.2)
    ∙ ap (merge_rows (rows_of_entry rows next.0 ++ entries_rows rows next.2)) (ap (entries_rows rows) is.1 ∙ split_rows rows next.1 next.3)
    ∙ merge_blocks (rows_of_entry rows next.0) (rows_of_entry rows next.1) (entries_rows rows next.2) (entries_rows rows next.3)
    (entry_below rows next.0 next.3 (entry_named held es next.0 next.2 is.0 left) (rest_after held fs next.1 next.3 is.1 right).2 is.3)
    (entry_below rows next.1 next.2 (entry_named held fs next.1 next.3 is.1 right) (rest_after held es next.0 next.2 is.0 left).2 is.4)

-- one pair

pub slashed : (n : List ℕ) → has_slash (n ++ 47 ∷ []) ≡ true
slashed [] = refl
slashed (x ∷ n) = ap (λ b. nat_eq x 47 || b) (slashed n) ∙ or-true (nat_eq x 47)

not_slashed : (n m : List ℕ) → is_name n ≡ true → n ≡ m ++ 47 ∷ [] → ⊥
not_slashed n m name is = let bad : false ≡ true = sym (name_has_none n name) ∙ ap has_slash is ∙ slashed m in absurd (cc)

-- two entries of one key have one name, and both are directories or both are files
pub one_name : (n m : List ℕ) (k l : Option Kind) → is_name n ≡ true → is_name m ≡ true → key_of n k ≡ key_of m l → n ≡ m
one_name n m None None name names is = append_cancel_right n m (47 ∷ []) is
one_name n m (Some k) (Some l) name names is = is
one_name n m None (Some l) name names is = absurd (not_slashed m n names (sym is))
one_name n m (Some k) None name names is = absurd (not_slashed n m name is)

mode_is : (k l : Option Kind) → same_mode k l ≡ true → k ≡ l
mode_is None None h = refl
mode_is (Some k) (Some l) h = ap Some (same_kind-is k l h)
mode_is k l h = absurd (cc)

both_parts : (a b : Bool) → not (a && b) ≡ false → (a ≡ true) × (b ≡ true)
both_parts true true h = (refl, refl)
both_parts a b h = absurd (cc)

-- what is the same has no difference
pub nothing_changed : (rows : Id → List Row) (o p : Option Entry) → Meet o p → OfEntry (λ e. is_name e.name ≡ true) o → OfEntry (λ e. is_name e.name ≡ true) p → is_changed o p ≡ false
    → merge_rows (rows_of_entry rows o) (rows_of_entry rows p) ≡ []
nothing_changed rows None None meet name names h = absurd meet
nothing_changed rows (Some e) (Some f) meet name names h =
    let parts = both_parts (same_mode e.kind f.kind) (same_id e.id f.id) h in
    let kinds = mode_is e.kind f.kind parts.0 in
    let ids = same_id-is e.id f.id parts.1 in
    let one = one_name e.name f.name e.kind f.kind name names meet in
    let same : entry_rows rows f ≡ entry_rows rows e = sym (λ i. rows_of_kind (one i) (kinds i) (ids i) (rows (ids i))) in
    ap (merge_rows (entry_rows rows e)) same ∙ same_law (entry_rows rows e)
nothing_changed rows o p meet name names h = absurd (cc)

-- a file that is changed
file_alone : (n : List ℕ) (k : Option Kind) (i : Id) (below : List Row) (a b : Option Id) → directory_of n k a b ≡ None → (merge_rows (rows_of_kind n k i below) [] ≡ n ∷ []) × (merge_rows [] (rows_of_kind n k i below) ≡ n ∷ [])
file_alone n None i below a b h = absurd (cc)
file_alone n (Some k) i below a b h = (refl, refl)

files_changed : (n m : List ℕ) (k l : Option Kind) (i j : Id) (below behind : List Row) (a b : Option Id) → is_name n ≡ true → is_name m ≡ true → key_of n k ≡ key_of m l
    → directory_of n k a b ≡ None → not (same_mode k l && same_id i j) ≡ true → merge_rows (rows_of_kind n k i below) (rows_of_kind m l j behind) ≡ n ∷ []
files_changed n m None l i j below behind a b name names is h g = absurd (cc)
files_changed n m (Some k) None i j below behind a b name names is h g = absurd (not_slashed n m name is)
files_changed n m (Some k) (Some l) i j below behind a b name names is h g =
    ap (λ q. by_order (order n q) (n ∷ q ∷ []) (cond (same_kind k l && same_id i j) [] (n ∷ [])) (q ∷ n ∷ [])) (sym is)
    ∙ ap (λ o. by_order o (n ∷ n ∷ []) (cond (same_kind k l && same_id i j) [] (n ∷ [])) (n ∷ n ∷ [])) (tied_itself nat_list_cmp_total n)
    ∙ ap (λ b. cond b [] (n ∷ [])) (not-true (same_kind k l && same_id i j) g)

pub file_changed : (rows : Id → List Row) (o p : Option Entry) → Meet o p → OfEntry (λ e. is_name e.name ≡ true) o → OfEntry (λ e. is_name e.name ≡ true) p → is_changed o p ≡ true → directory o p ≡ None
    → merge_rows (rows_of_entry rows o) (rows_of_entry rows p) ≡ name_of o p ∷ []
file_changed rows None None meet name names h g = absurd meet
file_changed rows (Some e) None meet name names h g = (file_alone e.name e.kind e.id (rows e.id) (Some e.id) None g).0
file_changed rows None (Some f) meet name names h g = (file_alone f.name f.kind f.id (rows f.id) None (Some f.id) g).1
file_changed rows (Some e) (Some f) meet name names h g =
    files_changed e.name f.name e.kind f.kind e.id f.id (rows e.id) (rows f.id) (Some e.id) (Some f.id) name names meet g h

-- a directory: its rows, its trees and their depths

abbrev pub IsDirectory : List Held → ℕ → ℕ → List Row → List Row → Directory → Type 0
IsDirectory held m n xs ys d = (merge_rows xs ys ≡ map (below d.0) (merge_rows (side_rows held d.1) (side_rows held d.2)))
    × IsSide held d.1 × IsSide held d.2 × (side_depth held d.1 + side_depth held d.2 < m + n)

pub dir_inside : (n : List ℕ) (k : Option Kind) (a b : Option Id) (d : Directory) → directory_of n k a b ≡ Some d → (k ≡ None) × ((n, a, b) ≡ d)
dir_inside n None a b d h = (refl, inside (n, a, b) d h)
  where
    inside : (x y : Directory) → Some x ≡ Some y → x ≡ y
    inside x y e = cc
dir_inside n (Some k) a b d h = absurd (cc)

pub also_dir : (n m : List ℕ) (l : Option Kind) → is_name m ≡ true → key_of n None ≡ key_of m l → l ≡ None
also_dir n m None name is = refl
also_dir n m (Some l) name is = absurd (not_slashed m n name (sym is))

tree_of : (held : List Held) (k : Option Kind) (i : Id) → k ≡ None → IsHeld held (type_wanted k) i → HasTree held i
tree_of held k i dir h = subst (λ l. IsHeld held (type_wanted l) i) dir h

dir_rows : (n : List ℕ) (k : Option Kind) (i : Id) (inner : List Row) → k ≡ None → rows_of_kind n k i inner ≡ map (under n) inner
dir_rows n k i inner dir = ap (λ l. rows_of_kind n l i inner) dir

pub directory_met : (held : List Held) (m n : ℕ) (o p : Option Entry) (d : Directory) → Meet o p → OfEntry (λ e. is_name e.name ≡ true) o → OfEntry (λ e. is_name e.name ≡ true) p
    → OfEntry (λ e. IsHeld held (type_wanted e.kind) e.id) o → OfEntry (λ e. IsHeld held (type_wanted e.kind) e.id) p
    → OfEntry (λ e. e.kind ≡ None → tree_depth held e.id < m) o → OfEntry (λ e. e.kind ≡ None → tree_depth held e.id < n) p
    → directory o p ≡ Some d → IsDirectory held m n (rows_of_entry (tree_rows held) o) (rows_of_entry (tree_rows held) p) d
directory_met held m n None None d meet name names h g deep depths is = absurd meet
directory_met held m n (Some e) None d meet name names h g deep depths is =
    let dir = dir_inside e.name e.kind (Some e.id) None d is in
    let less : tree_depth held e.id < m = deep dir.0 in
    subst (IsDirectory held m n (entry_rows (tree_rows held) e) []) dir.1 (
      ap (λ xs. merge_rows xs []) (dir_rows e.name e.kind e.id (tree_rows held e.id) dir.0) ∙ merge_under e.name (tree_rows held e.id) [],
      tree_of held e.kind e.id dir.0 h,
      tt,
      omega (arith, less),
    )
directory_met held m n None (Some f) d meet name names h g deep depths is =
    let dir = dir_inside f.name f.kind None (Some f.id) d is in
    let less : tree_depth held f.id < n = depths dir.0 in
    subst (IsDirectory held m n [] (entry_rows (tree_rows held) f)) dir.1 (
      ap (λ ys. merge_rows [] ys) (dir_rows f.name f.kind f.id (tree_rows held f.id) dir.0) ∙ merge_under f.name [] (tree_rows held f.id),
      tt,
      tree_of held f.kind f.id dir.0 g,
      omega (arith, less),
    )
directory_met held m n (Some e) (Some f) d meet name names h g deep depths is =
    let dir = dir_inside e.name e.kind (Some e.id) (Some f.id) d is in
    let other : f.kind ≡ None = also_dir e.name f.name f.kind names (ap (key_of e.name) (sym dir.0) ∙ meet) in
    let one : e.name ≡ f.name = one_name e.name f.name e.kind f.kind name names meet in
    let less : tree_depth held e.id < m = deep dir.0 in
    let smaller : tree_depth held f.id < n = depths other in
    subst (IsDirectory held m n (entry_rows (tree_rows held) e) (entry_rows (tree_rows held) f)) dir.1 (
      ap (λ xs. merge_rows xs (entry_rows (tree_rows held) f)) (dir_rows e.name e.kind e.id (tree_rows held e.id) dir.0)
          ∙ ap (merge_rows (map (under e.name) (tree_rows held e.id))) (dir_rows f.name f.kind f.id (tree_rows held f.id) other ∙ ap (λ q. map (under q) (tree_rows held f.id)) (sym one))
          ∙ merge_under e.name (tree_rows held e.id) (tree_rows held f.id),
      tree_of held e.kind e.id dir.0 h,
      tree_of held f.kind f.id other g,
      omega (arith, less, smaller),
    )
