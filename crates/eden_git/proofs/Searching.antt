-- A search among the entries of a tree, whose keys ascend.
use Rattle.std.proofs.Common.{◌≡◌, ◌∙◌, sym, refl, ap, ℕ, zero, suc, Bool, true, false, cond, List, [], ◌∷◌, ◌++◌, map, drop, length, Option, Some, None, Ordering}
use Rattle.std.proofs.lemmas.Cmp.{nat_list_cmp_total}
use Rattle.std.proofs.lemmas.Map.Keys.{sorted_head, sorted_tail}
use Rattle.std.proofs.lemmas.Slice.Eq.{bytes_eq-Decides}
use Rattle.std.specs.Cmp.Lexicographic.{slice_cmp}
use Rattle.std.specs.List.{AllByRecursion, slice_get}
use Rattle.std.specs.Ordering.{is_lt, nat_cmp, ordering_reverse}
use Rattle.std.specs.declared.cmp.Ordering.TheVariants.{Less, Equal, Greater}
use Rattle.eden_ids.specs.declared.id.Id.{Id}
use Rattle.eden_ids.specs.declared.content.Kind.{Kind}
use Rattle.eden_ids.specs.Sameness.{same_bytes}
use Rattle.eden_git.specs.Trees.{Entry, key, key_of}
use Rattle.eden_git.specs.Starts.{AreInOrder}
use Rattle.eden_git.specs.internal.Searched.{first_from, is_before}
use Rattle.eden_git.specs.Directories.{dir_if, dir_named, file_if, file_named, or_later}
use Rattle.eden_ids.proofs.ByteOrder.{is_less}

not_less : (o : Ordering) → o ≡ ordering_reverse o → is_lt o ≡ false
not_less Less h = cc h
not_less Equal h = refl
not_less Greater h = refl

irreflexive : (k : List ℕ) → is_lt (slice_cmp nat_cmp k k) ≡ false
irreflexive k = not_less (slice_cmp nat_cmp k k) (nat_list_cmp_total.antisymm k k)

-- the entries before one that is before a key do so too

before_too : (w k : List ℕ) (e : Entry) → slice_cmp nat_cmp k (key e) ≡ Less → is_before w (Some e) ≡ true → is_lt (slice_cmp nat_cmp k w) ≡ true
before_too w k e lower before = ap is_lt (nat_list_cmp_total.trans k (key e) w lower (is_less (slice_cmp nat_cmp (key e) w) before))

later_before : (w k : List ℕ) (es : List Entry) (row : ℕ) → AllByRecursion (λ y. slice_cmp nat_cmp k y ≡ Less) (map key es)
    → is_before w (slice_get es row) ≡ true → is_lt (slice_cmp nat_cmp k w) ≡ true
later_before w k [] row lower before = cc before
later_before w k (e ∷ es) zero lower before = before_too w k e lower.0 before
later_before w k (e ∷ es) (suc row) lower before = later_before w k es row lower.1 before

pub passed : (w : List ℕ) (es : List Entry) (row : ℕ) → AreInOrder es → is_before w (slice_get es row) ≡ true → first_from w es ≡ first_from w (drop (suc row) es)
passed w [] row sorted before = refl
passed w (e ∷ es) zero sorted before = ap (λ b. cond b (first_from w es) (Some e)) before
passed w (e ∷ es) (suc row) sorted before =
    ap (λ b. cond b (first_from w es) (Some e)) (later_before w (key e) es row (sorted_head (slice_cmp nat_cmp) (key e) (map key es) sorted) before)
    ∙ passed w es row (sorted_tail (slice_cmp nat_cmp) (key e) (map key es) sorted) before

-- one that doesn't is the first of those from its row on
pub stays : (w : List ℕ) (es : List Entry) (row : ℕ) → is_before w (slice_get es row) ≡ false → slice_get es row ≡ first_from w (drop row es)
stays w [] zero later = refl
stays w [] (suc row) later = refl
stays w (e ∷ es) zero later = sym (ap (λ b. cond b (first_from w es) (Some e)) later)
stays w (e ∷ es) (suc row) later = stays w es row later

pub none_at_end : (w : List ℕ) (es : List Entry) → slice_get es (length es) ≡ first_from w (drop (length es) es)
none_at_end w [] = refl
none_at_end w (e ∷ es) = none_at_end w es

-- only the first entry that is not before a key may have it

module _ {A : Type 0} (here : Entry → Option A) (w : List ℕ) (apart : (e : Entry) → (key e ≡ w → true ≡ false) → here e ≡ None) where
  abbrev pub any_here : List Entry → Option A
  any_here [] = None
  any_here (e ∷ es) = or_later (here e) (any_here es)

  abbrev pub here_of : Option Entry → Option A
  here_of None = None
  here_of (Some e) = here e

  or_none : (o : Option A) → or_later o None ≡ o
  or_none None = refl
  or_none (Some x) = refl

  none_after : (k : List ℕ) (es : List Entry) → AllByRecursion (λ y. slice_cmp nat_cmp k y ≡ Less) (map key es)
      → is_lt (slice_cmp nat_cmp k w) ≡ false → any_here es ≡ None
  none_after k [] higher reached = refl
  none_after k (e ∷ es) higher reached =
      ap (λ o. or_later o (any_here es))
      (apart e (λ same. sym (ap is_lt higher.0) ∙ ap (λ y. is_lt (slice_cmp nat_cmp k y)) same ∙ reached))
      ∙ none_after k es higher.1 reached

  by_first : (es : List Entry) → AreInOrder es → any_here es ≡ here_of (first_from w es)
  by_first [] sorted = refl
  by_first (e ∷ es) sorted =
      by (is_lt (slice_cmp nat_cmp (key e) w)) refl (by_first es (sorted_tail (slice_cmp nat_cmp) (key e) (map key es) sorted)) where
        by : (t : Bool) → is_lt (slice_cmp nat_cmp (key e) w) ≡ t → any_here es ≡ here_of (first_from w es)
            → or_later (here e) (any_here es) ≡ here_of (cond t (first_from w es) (Some e))
        by true is rest =
            ap (λ o. or_later o (any_here es))
            (apart e (λ same. sym is ∙ ap (λ y. is_lt (slice_cmp nat_cmp (key e) y)) (sym same) ∙ irreflexive (key e)))
            ∙ rest
        by false is rest =
            ap (or_later (here e)) (none_after (key e) es (sorted_head (slice_cmp nat_cmp) (key e) (map key es) sorted) is)
            ∙ or_none (here e)

-- a file

file_apart : (name own : List ℕ) (kind : Option Kind) (id : Id) → (key_of own kind ≡ name → true ≡ false) → file_if kind id (same_bytes own name) ≡ None
file_apart name own None id apart = refl
file_apart name own (Some kind) id apart = by (same_bytes own name) refl where
  by : (t : Bool) → same_bytes own name ≡ t → cond {A = Option (Kind × Id)} t (Some (kind, id)) None ≡ None
  by true is = let no : true ≡ false = apart ((bytes_eq-Decides own name).0 is) in cc no
  by false is = refl

abbrev pub file_here : List ℕ → Entry → Option (Kind × Id)
file_here name e = file_if e.kind e.id (same_bytes e.name name)

any_file : (name : List ℕ) (es : List Entry) → file_named name es ≡ any_here (file_here name) name (λ e apart. file_apart name e.name e.kind e.id apart) es
any_file name [] = refl
any_file name (e ∷ es) = ap (or_later (file_here name e)) (any_file name es)

file_by : (name : List ℕ) (es : List Entry) → AreInOrder es
    → file_named name es ≡ here_of (file_here name) name (λ e apart. file_apart name e.name e.kind e.id apart) (first_from name es)
file_by name es sorted = any_file name es ∙ by_first (file_here name) name (λ e apart. file_apart name e.name e.kind e.id apart) es sorted

pub file_first : (name : List ℕ) (es : List Entry) (e : Entry) → AreInOrder es → Some e ≡ first_from name es
    → file_if e.kind e.id (same_bytes e.name name) ≡ file_named name es
file_first name es e sorted is =
    ap (here_of (file_here name) name (λ e apart. file_apart name e.name e.kind e.id apart)) is ∙ sym (file_by name es sorted)

pub file_none : (name : List ℕ) (es : List Entry) → AreInOrder es → None ≡ first_from name es → None ≡ file_named name es
file_none name es sorted is =
    ap (here_of (file_here name) name (λ e apart. file_apart name e.name e.kind e.id apart)) is ∙ sym (file_by name es sorted)

-- a directory, whose key ends in a slash

dir_apart : (name own : List ℕ) (kind : Option Kind) (id : Id) → (key_of own kind ≡ name ++ 47 ∷ [] → true ≡ false) → dir_if kind id (same_bytes own name) ≡ None
dir_apart name own None id apart = by (same_bytes own name) refl where
  by : (t : Bool) → same_bytes own name ≡ t → cond t (Some id) None ≡ None
  by true is = let no : true ≡ false = apart (ap (λ n. n ++ 47 ∷ []) ((bytes_eq-Decides own name).0 is)) in cc no
  by false is = refl
dir_apart name own (Some kind) id apart = refl

abbrev pub dir_here : List ℕ → Entry → Option Id
dir_here name e = dir_if e.kind e.id (same_bytes e.name name)

any_dir : (name : List ℕ) (es : List Entry) → dir_named name es ≡ any_here (dir_here name) (name ++ 47 ∷ []) (λ e apart. dir_apart name e.name e.kind e.id apart) es
any_dir name [] = refl
any_dir name (e ∷ es) = ap (or_later (dir_here name e)) (any_dir name es)

dir_by : (name : List ℕ) (es : List Entry) → AreInOrder es
    → dir_named name es
    ≡ here_of (dir_here name) (name ++ 47 ∷ []) (λ e apart. dir_apart name e.name e.kind e.id apart) (first_from (name ++ 47 ∷ []) es)
dir_by name es sorted =
    any_dir name es ∙ by_first (dir_here name) (name ++ 47 ∷ []) (λ e apart. dir_apart name e.name e.kind e.id apart) es sorted

pub dir_first : (name : List ℕ) (es : List Entry) (e : Entry) → AreInOrder es → Some e ≡ first_from (name ++ 47 ∷ []) es
    → dir_if e.kind e.id (same_bytes e.name name) ≡ dir_named name es
dir_first name es e sorted is =
    ap (here_of (dir_here name) (name ++ 47 ∷ []) (λ e apart. dir_apart name e.name e.kind e.id apart)) is ∙ sym (dir_by name es sorted)

pub dir_none : (name : List ℕ) (es : List Entry) → AreInOrder es → None ≡ first_from (name ++ 47 ∷ []) es → None ≡ dir_named name es
dir_none name es sorted is =
    ap (here_of (dir_here name) (name ++ 47 ∷ []) (λ e apart. dir_apart name e.name e.kind e.id apart)) is ∙ sym (dir_by name es sorted)
