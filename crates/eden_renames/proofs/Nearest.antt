-- The last entry above a path is the nearest one, since a directory is in byte order before what is below it.
use Rattle.std.proofs.Common.{◌≡◌, ◌≢◌, ℕ, ◌⊎◌, inl, inr, Bool, true, false, cond, T, List, [], ◌∷◌, ◌++◌, Option, Some, None, refl, sym, ap, ◌∙◌, arith}
use Rattle.std.specs.Prelude.{if◌then◌else◌}
use Rattle.std.specs.Option.{option_or}
use Rattle.std.specs.declared.cmp.Ordering.TheVariants.{Less, Equal}
use Rattle.std.specs.Ordering.{nat_cmp, is_lt, ordering_then}
use Rattle.std.specs.Cmp.{tied_itself}
use Rattle.std.specs.Cmp.Lexicographic.{nat_list_cmp_total}
use Rattle.std.specs.FinMap as fin
use Rattle.std.specs.FinMap.{find, is_sorted}
use Rattle.std.specs.FinMap.Entries.{below_all}
use Rattle.std.proofs.lemmas.Bool.Decides.{nat_tests}
use Rattle.eden_ids.specs.Paths.{lies_below}
use Rattle.eden_ids.specs.FileMaps.{same_path}
use Rattle.eden_ids.proofs.ByteOrder.{first, less, not_back, order, second}
use Rattle.eden_ids.proofs.FileMapLemmas.{lies_below-itself, same_path-is, same_path-other, same_path-refl}
use Rattle.eden_overlay.proofs.CarriedLemmas.{nested, rest_below}
use Rattle.eden_renames.specs.Renames.{Entry, Renames, nearest, source_by, source_of}

pub no : {A : Type 0} → true ≡ false → A
no bad = absurd (cc)

pub is_none : {A B : Type 0} (x : A) → Some x ≡ None → B
is_none x bad = absurd (cc)

-- ---- byte order

pub top_first : (path top : List ℕ) → lies_below path top ≡ true → order top path ≡ Less
top_first path top below = let at = rest_below path top below in ap (order top) at.1 ∙ longer top at.0
  where
    longer : (top rest : List ℕ) → order top (top ++ 47 ∷ rest) ≡ Less
    longer [] rest = refl
    longer (x ∷ top) rest = ap (λ o. ordering_then o (order top (top ++ 47 ∷ rest))) (itself x) ∙ longer top rest
      where
        itself : (x : ℕ) → nat_cmp x x ≡ Equal
        itself x = grind (arith, nat_tests)

pub not_itself : (k : List ℕ) → order k k ≡ Less → ⊥
not_itself k e = let bad : Equal ≡ Less = sym (tied_itself nat_list_cmp_total k) ∙ e in cc

-- what is found among later entries comes later
later : (k q : List ℕ) (v : Option (List ℕ)) (es : List Entry) → T (below_all order k es) → find order q es ≡ Some v → order k q ≡ Less
later k q v [] after found = is_none v (sym found)
later k q v (e ∷ es) after found =
    elim (same_path q e.0) as (λ b. same_path q e.0 ≡ b → cond b (Some e.1) (find order q es) ≡ Some v → order k q ≡ Less) [
      | true ↦ λ same _. ap (order k) (same_path-is q e.0 same) ∙ less _ (first _ _ after)
      | false ↦ λ _ more. later k q v es (second _ _ after) more
    ] refl found

-- ---- the nearest of entries in byte order

-- the entry above the path, below which no further one is above it
abbrev IsNearestOf : (List ℕ → Option (Option (List ℕ))) → List ℕ → Option Entry → Type 0
IsNearestOf said path None = (d : List ℕ) → lies_below path d ≡ true → said d ≡ None
IsNearestOf said path (Some e) = (said e.0 ≡ Some e.1) × (lies_below path e.0 ≡ true) × ((d : List ℕ) → lies_below path d ≡ true → lies_below d e.0 ≡ true → said d ≡ None)

abbrev pub IsNearest : Renames → List ℕ → Option Entry → Type 0
IsNearest renames path o = IsNearestOf (fin.get renames) path o

not_here : (e : Entry) (es : List Entry) (d : List ℕ) → d ≢ e.0 → find order d es ≡ None → find order d (e ∷ es) ≡ None
not_here e es d apart none = ap (λ b. cond b (Some e.1) (find order d es)) (same_path-other d e.0 apart) ∙ none

nearest_of : (es : List Entry) (path : List ℕ) → T (is_sorted order es) → IsNearestOf (λ d. find order d es) path (nearest es path)
nearest_of [] path sorted = λ d above. refl
nearest_of (e ∷ es) path sorted = by (nearest es path) (lies_below path e.0) refl (nearest_of es path (second _ _ sorted))
  where
    by : (o : Option Entry) (b : Bool) → lies_below path e.0 ≡ b → IsNearestOf (λ d. find order d es) path o
        → IsNearestOf (λ d. find order d (e ∷ es)) path (option_or o (if b then Some e else None))
    by (Some f) b is near =
        let after : order e.0 f.0 ≡ Less = later e.0 f.0 f.1 es (first _ _ sorted) near.0 in (
          ap (λ b. cond b (Some e.1) (find order f.0 es)) (same_path-other f.0 e.0 (λ same. not_itself e.0 (ap (order e.0) (sym same) ∙ after))) ∙ near.0,
          near.1,
          λ d above below. not_here e es d
              (λ same. no (sym (ap is_lt (top_first d f.0 below)) ∙ ap (λ k. is_lt (order f.0 k)) same ∙ not_back e.0 f.0 after))
              (near.2 d above below),
        )
    by None true is none = (
      ap (λ b. cond b (Some e.1) (find order e.0 es)) (same_path-refl e.0),
      is,
      λ d above below. not_here e es d (λ same. no (sym below ∙ ap (λ k. lies_below k e.0) same ∙ lies_below-itself e.0)) (none d above),
    )
    by None false is none = λ d above. not_here e es d (λ same. no (sym above ∙ ap (lies_below path) same ∙ is)) (none d above)

pub nearest-is : (renames : Renames) (path : List ℕ) → IsNearest renames path (nearest (fin.entries renames) path)
nearest-is renames path = told (nearest (fin.entries renames) path) (nearest_of (fin.entries renames) path (fin.entries_sorted renames))
  where
    told : (o : Option Entry) → IsNearestOf (λ d. find order d (fin.entries renames)) path o → IsNearest renames path o
    told None none = λ d above. fin.get-entries renames d ∙ none d above
    told (Some e) near = (fin.get-entries renames e.0 ∙ near.0, near.1, λ d above below. fin.get-entries renames d ∙ near.2 d above below)

-- ---- there is one nearest entry

pub one_nearest : (renames : Renames) (path : List ℕ) (o p : Option Entry) → IsNearest renames path o → IsNearest renames path p → o ≡ p
one_nearest renames path None None x y = refl
one_nearest renames path None (Some f) x y = is_none f.1 (sym y.0 ∙ x f.0 y.1)
one_nearest renames path (Some e) None x y = is_none e.1 (sym x.0 ∙ y e.0 x.1)
one_nearest renames path (Some e) (Some f) x y = by (nested path e.0 f.0 x.1 y.1)
  where
    same : {A : Type 0} (a b : A) → Some a ≡ Some b → a ≡ b
    same a b e = cc

    by : (e.0 ≡ f.0) ⊎ ((lies_below e.0 f.0 ≡ true) ⊎ (lies_below f.0 e.0 ≡ true)) → Some e ≡ Some f
    by (inl one) = let what : e.1 ≡ f.1 = same e.1 f.1 (sym x.0 ∙ ap (fin.get renames) one ∙ y.0) in (λ i. Some (one i, what i))
    by (inr (inl below)) = is_none e.1 (sym x.0 ∙ y.2 e.0 x.1 below)
    by (inr (inr below)) = is_none f.1 (sym y.0 ∙ x.2 f.0 y.1 below)

pub source_is : (renames : Renames) (path : List ℕ) (o : Option Entry) → IsNearest renames path o → source_of renames path ≡ source_by o path
source_is renames path o near = ap (λ o. source_by o path) (one_nearest renames path (nearest (fin.entries renames) path) o (nearest-is renames path) near)

-- what is said of the directories above a path alone is looked at
pub same_above : (renames others : Renames) (path : List ℕ) (o : Option Entry) → ((d : List ℕ) → lies_below path d ≡ true → fin.get others d ≡ fin.get renames d)
    → IsNearest renames path o → IsNearest others path o
same_above renames others path None same near = λ d above. same d above ∙ near d above
same_above renames others path (Some e) same near =
    (same e.0 near.1 ∙ near.0, near.1, λ d above below. same d above ∙ near.2 d above below)
