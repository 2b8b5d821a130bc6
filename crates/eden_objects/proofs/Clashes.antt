-- No two files of a tree clash: a name of a tree is that of one entry.
use Rattle.std.proofs.Common.{◌≡◌, ℕ, ◌++◌, inl, inr, true, false, cond, ◌&&◌, ◌||◌, List, [], ◌∷◌, map, Option, Some, None, is_some, refl, sym, ap, ◌∙◌}
use Rattle.std.proofs.lemmas.Bool.{cases_Bool, or_from, and_left}
use Rattle.std.proofs.lemmas.Slice.Eq.{bytes_eq-Decides}
use Rattle.std.specs.List.{AllByRecursion}
use Rattle.eden_ids.specs.declared.id.Id.{Id}
use Rattle.eden_ids.specs.declared.content.Kind.{Kind}
use Rattle.eden_ids.specs.Paths.{clashes, lies_below}
use Rattle.eden_ids.proofs.FileMapLemmas.{lies_below-itself}
use Rattle.eden_objects.specs.Objects.{Held}
use Rattle.eden_ids.specs.Sameness.{same_bytes}
use Rattle.eden_git.specs.Trees.{Entry, is_name}
use Rattle.eden_objects.specs.Commits.{Row, under, rows_of_kind, entry_rows, entries_rows, find_row, tree_rows}
use Rattle.eden_objects.specs.Closed.{HasTree, IsClosed, NamesDiffer}
use Rattle.eden_git.proofs.Slashes.{has_slash, name_has_none, name_not_below, below_name, below_under}
use Rattle.eden_objects.proofs.Lookup.{turn}
use Rattle.eden_objects.proofs.ByTrees.{IsStep, by_trees}
use Rattle.std.proofs.Math.Bool.{or_comm}

abbrev pub IsApart : List ℕ → List Row → Type 0
IsApart p rows = AllByRecursion (λ row. clashes p row.0 ≡ false) rows

abbrev pub NoneClash : List Row → Type 0
NoneClash [] = Unit {0}
NoneClash (row ∷ rows) = IsApart row.0 rows × NoneClash rows

apart_append : (p : List ℕ) (xs ys : List Row) → IsApart p xs → IsApart p ys → IsApart p (xs ++ ys)
apart_append p [] ys h g = g
apart_append p (x ∷ xs) ys h g = (h.0, apart_append p xs ys h.1 g)

none_append : (xs ys : List Row) → NoneClash xs → NoneClash ys → AllByRecursion (λ x. IsApart x.0 ys) xs → NoneClash (xs ++ ys)
none_append [] ys h g cross = g
none_append (x ∷ xs) ys h g cross = (apart_append x.0 xs ys h.0 cross.0, none_append xs ys h.1 g cross.1)

below_same : (n q r : List ℕ) → has_slash n ≡ false → lies_below (n ++ 47 ∷ q) (n ++ 47 ∷ r) ≡ lies_below q r
below_same n q r free = below_under n n q r free free ∙ ap (λ b. b && lies_below q r) ((bytes_eq-Decides n n).1 refl)

under_apart : (n p : List ℕ) (rows : List Row) → has_slash n ≡ false → IsApart p rows → IsApart (n ++ 47 ∷ p) (map (under n) rows)
under_apart n p [] free h = tt
under_apart n p (row ∷ rows) free h =
    let one = below_same n p row.0 free in
    let other = below_same n row.0 p free in
    ((λ i. one i || other i) ∙ h.0, under_apart n p rows free h.1)

under_none : (n : List ℕ) (rows : List Row) → has_slash n ≡ false → NoneClash rows → NoneClash (map (under n) rows)
under_none n [] free h = tt
under_none n (row ∷ rows) free h = (under_apart n row.0 rows free h.0, under_none n rows free h.1)

file_apart : (n m : List ℕ) (kind : Option Kind) (id : Id) (rows : List Row) → has_slash n ≡ false → has_slash m ≡ false → same_bytes n m ≡ false → IsApart n (rows_of_kind m kind id rows)
file_apart n m None id [] none free apart = tt
file_apart n m None id (row ∷ rows) none free apart =
    (or_from _ _ (name_not_below n (m ++ 47 ∷ row.0) none) (below_name m n row.0 free none ∙ turn m n ∙ apart), file_apart n m None id rows none free apart)
file_apart n m (Some kind) id rows none free apart = (or_from _ _ (name_not_below n m none) (name_not_below m n free), tt)

dir_apart : (n q m : List ℕ) (kind : Option Kind) (id : Id) (rows : List Row) → has_slash n ≡ false → has_slash m ≡ false → same_bytes n m ≡ false
    → IsApart (n ++ 47 ∷ q) (rows_of_kind m kind id rows)
dir_apart n q m None id [] none free apart = tt
dir_apart n q m None id (row ∷ rows) none free apart =
    (or_from _ _ (below_under n m q row.0 none free ∙ and_left _ _ apart) (below_under m n row.0 q free none ∙ and_left _ _ (turn m n ∙ apart)), dir_apart n q m None id rows none free apart)
dir_apart n q m (Some kind) id rows none free apart = (or_from _ _ (below_name n m q none free ∙ apart) (name_not_below m (n ++ 47 ∷ q) free), tt)

file_all : (n : List ℕ) (rows : Id → List Row) (es : List Entry) → has_slash n ≡ false → AllByRecursion (λ e. is_name e.name ≡ true) es
    → AllByRecursion (λ f. same_bytes n f.name ≡ false) es → IsApart n (entries_rows rows es)
file_all n rows [] none names apart = tt
file_all n rows (e ∷ es) none names apart =
    apart_append n (entry_rows rows e) (entries_rows rows es) (file_apart n e.name e.kind e.id (rows e.id) none (name_has_none e.name names.0) apart.0)
    (file_all n rows es none names.1 apart.1)

dir_all : (n q : List ℕ) (rows : Id → List Row) (es : List Entry) → has_slash n ≡ false → AllByRecursion (λ e. is_name e.name ≡ true) es
    → AllByRecursion (λ f. same_bytes n f.name ≡ false) es → IsApart (n ++ 47 ∷ q) (entries_rows rows es)
dir_all n q rows [] none names apart = tt
dir_all n q rows (e ∷ es) none names apart =
    apart_append (n ++ 47 ∷ q) (entry_rows rows e) (entries_rows rows es) (dir_apart n q e.name e.kind e.id (rows e.id) none (name_has_none e.name names.0) apart.0)
    (dir_all n q rows es none names.1 apart.1)

each_all : (n : List ℕ) (below : List Row) (rows : Id → List Row) (es : List Entry) → has_slash n ≡ false → AllByRecursion (λ e. is_name e.name ≡ true) es
    → AllByRecursion (λ f. same_bytes n f.name ≡ false) es → AllByRecursion (λ x. IsApart x.0 (entries_rows rows es)) (map (under n) below)
each_all n [] rows es none names apart = tt
each_all n (row ∷ below) rows es none names apart = (dir_all n row.0 rows es none names apart, each_all n below rows es none names apart)

first_apart : (n : List ℕ) (kind : Option Kind) (id : Id) (below : List Row) (rows : Id → List Row) (es : List Entry) → (kind ≡ None → NoneClash below) → has_slash n ≡ false
    → AllByRecursion (λ e. is_name e.name ≡ true) es → AllByRecursion (λ f. same_bytes n f.name ≡ false) es → NoneClash (entries_rows rows es)
    → NoneClash (rows_of_kind n kind id below ++ entries_rows rows es)
first_apart n None id below rows es dir none names apart rest =
    none_append (map (under n) below) (entries_rows rows es) (under_none n below none (dir refl)) rest (each_all n below rows es none names apart)
first_apart n (Some kind) id below rows es dir none names apart rest = (file_all n rows es none names apart, rest)

clash_step : IsStep (λ rows depth reach. NoneClash rows)
clash_step rows depth reach es dirs keys names differ = by es dirs names differ
  where
    by : (fs : List Entry) → AllByRecursion (λ e. e.kind ≡ None → NoneClash (rows e.id)) fs → AllByRecursion (λ e. is_name e.name ≡ true) fs
        → NamesDiffer fs → NoneClash (entries_rows rows fs)
    by [] d n a = tt
    by (e ∷ fs) d n a = first_apart e.name e.kind e.id (rows e.id) rows fs d.0 (name_has_none e.name n.0) n.1 a.0 (by fs d.1 n.1 a.1)

pub none_clash : (held : List Held) → IsClosed held → (id : Id) → HasTree held id → NoneClash (tree_rows held id)
none_clash = by_trees (λ rows depth reach. NoneClash rows) clash_step

clash_itself : (p q : List ℕ) → p ≡ q → clashes p q ≡ false
clash_itself p q e = ap (clashes p) (sym e) ∙ or_from _ _ (lies_below-itself p) (lies_below-itself p)

is_here : (p : List ℕ) (row : Row) (rows : List Row) → same_bytes row.0 p ≡ false → find_row p (row ∷ rows) ≡ find_row p rows
is_here p row rows f = ap (λ b. cond b (Some (row.1, row.2)) (find_row p rows)) f

found_apart : (top q : List ℕ) (rows : List Row) → IsApart top rows → is_some (find_row q rows) ≡ true → clashes top q ≡ false
found_apart top q [] all some = absurd (cc)
found_apart top q (row ∷ rows) all some = elim (cases_Bool (same_bytes row.0 q)) [
  | inl t ↦ ap (clashes top) (sym ((bytes_eq-Decides row.0 q).0 t)) ∙ all.0
  | inr f ↦ found_apart top q rows all.1 (ap is_some (sym (is_here q row rows f)) ∙ some)
]

-- two paths that are found don't clash
pub found_do_not_clash : (rows : List Row) (p q : List ℕ) → NoneClash rows → is_some (find_row p rows) ≡ true → is_some (find_row q rows) ≡ true → clashes p q ≡ false
found_do_not_clash [] p q all first second = absurd (cc)
found_do_not_clash (row ∷ rows) p q all first second = elim (cases_Bool (same_bytes row.0 p)) [
  | inl t ↦ let here : row.0 ≡ p = (bytes_eq-Decides row.0 p).0 t in elim (cases_Bool (same_bytes row.0 q)) [
    | inl u ↦ clash_itself p q (sym here ∙ (bytes_eq-Decides row.0 q).0 u)
    | inr g ↦ ap (λ a. clashes a q) (sym here) ∙ found_apart row.0 q rows all.0 (ap is_some (sym (is_here q row rows g)) ∙ second)
  ]
  | inr f ↦ let later : is_some (find_row p rows) ≡ true = ap is_some (sym (is_here p row rows f)) ∙ first in elim (cases_Bool (same_bytes row.0 q)) [
    | inl u ↦ or_comm (lies_below p q) (lies_below q p) ∙ ap (λ a. clashes a p) (sym ((bytes_eq-Decides row.0 q).0 u)) ∙ found_apart row.0 p rows all.0 later
    | inr g ↦ found_do_not_clash rows p q all.1 later (ap is_some (sym (is_here q row rows g)) ∙ second)
  ]
]
