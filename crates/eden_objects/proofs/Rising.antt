-- The files of a tree are in byte order of their paths, since its entries are in the order of their keys.
use Rattle.std.proofs.Common.{◌≡◌, ℕ, ◌++◌, true, false, nat_eq, List, [], ◌∷◌, map, Option, Some, None, refl, sym, ap, ◌∙◌, append_assoc}
use Rattle.std.proofs.lemmas.Bool.{or_parts, eq-eqb}
use Rattle.std.specs.declared.cmp.Ordering.{Ordering}
use Rattle.std.specs.declared.cmp.Ordering.TheVariants.{Less, Equal, Greater}
use Rattle.std.specs.Ordering.{nat_cmp, ordering_then}
use Rattle.std.specs.Cmp.{tied_itself, nat_cmp_total}
use Rattle.std.specs.Cmp.Lexicographic.{slice_cmp}
use Rattle.std.specs.FinMap.{nat_cmp-IsAntisymmetric}
use Rattle.std.specs.List.{AllByRecursion}
use Rattle.std.specs.List.Sorted.{IsStrictlySortedBy}
use Rattle.eden_ids.specs.declared.id.Id.{Id}
use Rattle.eden_ids.specs.declared.content.Kind.{Kind}
use Rattle.eden_objects.specs.Objects.{Held}
use Rattle.eden_git.specs.Trees.{Entry, key, key_of, is_name}
use Rattle.eden_objects.specs.Commits.{Row, under, rows_of_kind, entry_rows, entries_rows, tree_rows}
use Rattle.eden_objects.specs.Closed.{HasTree, IsClosed}
use Rattle.eden_git.proofs.Slashes.{has_slash, name_has_none}
use Rattle.eden_objects.proofs.ByTrees.{IsStep, by_trees}

abbrev pub order : List ℕ → List ℕ → Ordering
order = slice_cmp nat_cmp

-- the paths are in byte order
abbrev pub Rises : List Row → Type 0
Rises rows = IsStrictlySortedBy (slice_cmp nat_cmp) (map (λ row. row.0) rows)

abbrev pub IsBelow : List ℕ → List Row → Type 0
IsBelow p rows = AllByRecursion (λ q. slice_cmp nat_cmp p q ≡ Less) (map (λ row. row.0) rows)

then_less : (r o p : Ordering) → (o ≡ Less → p ≡ Less) → ordering_then r o ≡ Less → ordering_then r p ≡ Less
then_less Less o p f h = refl
then_less Equal o p f h = f h
then_less Greater o p f h = h

-- a first pair that is not equal decides
decided : (r o p : Ordering) → (r ≡ Equal → ⊥) → ordering_then r o ≡ Less → ordering_then r p ≡ Less
decided Less o p apart h = refl
decided Equal o p apart h = absurd (apart refl)
decided Greater o p apart h = h

not_slash : (x : ℕ) → nat_eq x 47 ≡ false → nat_cmp x 47 ≡ Equal → ⊥
not_slash x free e = let is = eq-eqb x 47 (nat_cmp-IsAntisymmetric x 47 e) in absurd (cc)

slash_not : (x : ℕ) → nat_eq x 47 ≡ false → nat_cmp 47 x ≡ Equal → ⊥
slash_not x free e = let is = eq-eqb x 47 (sym (nat_cmp-IsAntisymmetric 47 x e)) in absurd (cc)

-- what is above stays above when it grows
less_more : (n k q : List ℕ) → order n k ≡ Less → order n (k ++ q) ≡ Less
less_more [] [] q h = absurd (cc)
less_more [] (x ∷ k) q h = refl
less_more (a ∷ n) [] q h = absurd (cc)
less_more (a ∷ n) (x ∷ k) q h = then_less (nat_cmp a x) (order n k) (order n (k ++ q)) (less_more n k q) h

dir_file : (n m q : List ℕ) → has_slash m ≡ false → order (n ++ 47 ∷ []) m ≡ Less → order (n ++ 47 ∷ q) m ≡ Less
dir_file [] [] q free h = absurd (cc)
dir_file [] (x ∷ m) q free h = decided (nat_cmp 47 x) (order [] m) (order q m) (slash_not x (or_parts _ _ free).0) h
dir_file (a ∷ n) [] q free h = absurd (cc)
dir_file (a ∷ n) (x ∷ m) q free h = then_less (nat_cmp a x) (order (n ++ 47 ∷ []) m) (order (n ++ 47 ∷ q) m) (dir_file n m q (or_parts _ _ free).1) h

dir_dir : (n m q r : List ℕ) → has_slash n ≡ false → has_slash m ≡ false → order (n ++ 47 ∷ []) (m ++ 47 ∷ []) ≡ Less → order (n ++ 47 ∷ q) (m ++ 47 ∷ r) ≡ Less
dir_dir [] [] q r none free h = absurd (cc)
dir_dir [] (x ∷ m) q r none free h = decided (nat_cmp 47 x) (order [] (m ++ 47 ∷ [])) (order q (m ++ 47 ∷ r)) (slash_not x (or_parts _ _ free).0) h
dir_dir (a ∷ n) [] q r none free h = decided (nat_cmp a 47) (order (n ++ 47 ∷ []) []) (order (n ++ 47 ∷ q) r) (not_slash a (or_parts _ _ none).0) h
dir_dir (a ∷ n) (x ∷ m) q r none free h =
    then_less (nat_cmp a x) (order (n ++ 47 ∷ []) (m ++ 47 ∷ [])) (order (n ++ 47 ∷ q) (m ++ 47 ∷ r)) (dir_dir n m q r (or_parts _ _ none).1 (or_parts _ _ free).1) h

-- paths below one directory are ordered as what follows it
pub prefix : (n q r : List ℕ) → order (n ++ q) (n ++ r) ≡ order q r
prefix [] q r = refl
prefix (a ∷ n) q r = ap (λ o. ordering_then o (order (n ++ q) (n ++ r))) (tied_itself nat_cmp_total a) ∙ prefix n q r

pub below_append : (p : List ℕ) (xs ys : List Row) → IsBelow p xs → IsBelow p ys → IsBelow p (xs ++ ys)
below_append p [] ys h g = g
below_append p (x ∷ xs) ys h g = (h.0, below_append p xs ys h.1 g)

rises_append : (xs ys : List Row) → Rises xs → Rises ys → AllByRecursion (λ x. IsBelow x.0 ys) xs → Rises (xs ++ ys)
unfolding IsStrictlySortedBy
rises_append [] ys h g cross = g
rises_append (x ∷ xs) ys h g cross = (below_append x.0 xs ys h.0 cross.0, rises_append xs ys h.1 g cross.1)

pub below_under : (n p : List ℕ) (rows : List Row) → IsBelow p rows → IsBelow (n ++ 47 ∷ p) (map (under n) rows)
below_under n p [] h = tt
below_under n p (row ∷ rows) h = (
  ap (λ a. order a (n ++ 47 ∷ row.0)) (sym (append_assoc n (47 ∷ []) p)) ∙ ap (order ((n ++ 47 ∷ []) ++ p)) (sym (append_assoc n (47 ∷ []) row.0))
      ∙ prefix (n ++ 47 ∷ []) p row.0 ∙ h.0,
  below_under n p rows h.1,
)

rises_under : (n : List ℕ) (rows : List Row) → Rises rows → Rises (map (under n) rows)
unfolding IsStrictlySortedBy
rises_under n [] h = tt
rises_under n (row ∷ rows) h = (below_under n row.0 rows h.0, rises_under n rows h.1)

-- a file's name against the rows of a later entry
file_entry : (n m : List ℕ) (kind : Option Kind) (id : Id) (rows : List Row) → order n (key_of m kind) ≡ Less → IsBelow n (rows_of_kind m kind id rows)
file_entry n m None id [] h = tt
file_entry n m None id (row ∷ rows) h =
    (ap (order n) (sym (append_assoc m (47 ∷ []) row.0)) ∙ less_more n (m ++ 47 ∷ []) row.0 h, file_entry n m None id rows h)
file_entry n m (Some kind) id rows h = (h, tt)

pub file_entries : (n : List ℕ) (rows : Id → List Row) (es : List Entry) → AllByRecursion (λ k. slice_cmp nat_cmp n k ≡ Less) (map key es) → IsBelow n (entries_rows rows es)
file_entries n rows [] h = tt
file_entries n rows (e ∷ es) h =
    below_append n (entry_rows rows e) (entries_rows rows es) (file_entry n e.name e.kind e.id (rows e.id) h.0) (file_entries n rows es h.1)

-- a directory's row against those of a later entry
dir_entry : (n q m : List ℕ) (kind : Option Kind) (id : Id) (rows : List Row) → has_slash n ≡ false → has_slash m ≡ false → order (n ++ 47 ∷ []) (key_of m kind) ≡ Less
    → IsBelow (n ++ 47 ∷ q) (rows_of_kind m kind id rows)
dir_entry n q m None id [] none free h = tt
dir_entry n q m None id (row ∷ rows) none free h = (dir_dir n m q row.0 none free h, dir_entry n q m None id rows none free h)
dir_entry n q m (Some kind) id rows none free h = (dir_file n m q free h, tt)

dir_entries : (n q : List ℕ) (rows : Id → List Row) (es : List Entry) → has_slash n ≡ false → AllByRecursion (λ e. is_name e.name ≡ true) es
    → AllByRecursion (λ k. slice_cmp nat_cmp (n ++ 47 ∷ []) k ≡ Less) (map key es) → IsBelow (n ++ 47 ∷ q) (entries_rows rows es)
dir_entries n q rows [] none names h = tt
dir_entries n q rows (e ∷ es) none names h =
    below_append (n ++ 47 ∷ q) (entry_rows rows e) (entries_rows rows es)
    (dir_entry n q e.name e.kind e.id (rows e.id) none (name_has_none e.name names.0) h.0) (dir_entries n q rows es none names.1 h.1)

pub all_dir : (n : List ℕ) (below : List Row) (rows : Id → List Row) (es : List Entry) → has_slash n ≡ false → AllByRecursion (λ e. is_name e.name ≡ true) es
    → AllByRecursion (λ k. slice_cmp nat_cmp (n ++ 47 ∷ []) k ≡ Less) (map key es) → AllByRecursion (λ x. IsBelow x.0 (entries_rows rows es)) (map (under n) below)
all_dir n [] rows es none names h = tt
all_dir n (row ∷ below) rows es none names h = (dir_entries n row.0 rows es none names h, all_dir n below rows es none names h)

first_rises : (name : List ℕ) (kind : Option Kind) (id : Id) (below : List Row) (rows : Id → List Row) (es : List Entry) → (kind ≡ None → Rises below) → has_slash name ≡ false
    → AllByRecursion (λ k. slice_cmp nat_cmp (key_of name kind) k ≡ Less) (map key es) → AllByRecursion (λ e. is_name e.name ≡ true) es → Rises (entries_rows rows es)
    → Rises (rows_of_kind name kind id below ++ entries_rows rows es)
unfolding IsStrictlySortedBy
first_rises name None id below rows es dir free keys names rest =
    rises_append (map (under name) below) (entries_rows rows es) (rises_under name below (dir refl)) rest (all_dir name below rows es free names keys)
first_rises name (Some kind) id below rows es dir free keys names rest = (file_entries name rows es keys, rest)

rising_step : IsStep (λ rows depth reach. Rises rows)
unfolding IsStrictlySortedBy
rising_step rows depth reach [] dirs keys names differ = tt
rising_step rows depth reach (e ∷ es) dirs keys names differ =
    first_rises e.name e.kind e.id (rows e.id) rows es dirs.0 (name_has_none e.name names.0) keys.0 names.1 (rising_step rows depth reach es dirs.1 keys.1 names.1 differ.1)

pub rising_law : (held : List Held) → IsClosed held → (id : Id) → HasTree held id → IsStrictlySortedBy (slice_cmp nat_cmp) (map (λ row. row.0) (tree_rows held id))
rising_law = by_trees (λ rows depth reach. Rises rows) rising_step
