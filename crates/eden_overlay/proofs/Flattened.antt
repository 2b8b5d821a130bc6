-- Entries in blocks, seen as one list.
use Rattle.std.proofs.Common.{◌≡◌, ℕ, suc, zero, ◌+◌, ◌<◌, ◌≤◌, Bool, true, false, cond, not, is_some, T, List, [], ◌∷◌, ◌++◌, take, drop, length, Option, Some, None, refl, sym, ap, subst, ◌∙◌, arith, append_assoc, vec_len, add-one}
use Rattle.std.proofs.lemmas.List.{append-nil}
use Rattle.std.specs.declared.cmp.Ordering.TheVariants.{Less, Equal, Greater}
use Rattle.std.specs.Ordering.{is_lt, is_le, is_eq}
use Rattle.std.specs.Global.{Vec}
use Rattle.std.specs.List.{AllByRecursion, insert, remove, slice_index_or, slice_set}
use Rattle.std.specs.List.Sorted.{IsPartitionPoint, IsPartitionedBy}
use Rattle.std.specs.FinMap as fin
use Rattle.std.specs.FinMap.{find, put, is_sorted}
use Rattle.std.specs.FinMap.Entries.{below_all, by_order, length-put, length_without}
use Rattle.std.specs.Cmp.Lexicographic.{nat_list_cmp_total}
use Rattle.std.specs.Int.{from_bool}
use Rattle.std.specs.Option.{is_none}
use Rattle.eden_ids.specs.FileMaps.{same_path}
use Rattle.eden_ids.specs.declared.content.Content.{Content}
use Rattle.eden_ids.proofs.ByteOrder.{both, first, less, second}
use Rattle.eden_ids.proofs.Members.{all_joined}
use Rattle.eden_overlay.specs.Layers.{Entry, by_bytes}
use Rattle.eden_overlay.specs.Places.{place}
use Rattle.eden_overlay.specs.internal.Blocks.{flat, AllFilled, begins_at_or_before, begun, block_for}
use Rattle.eden_overlay.proofs.Placing.{is_less, turned, trans, below_later, none_above, without, without_none}

abbrev pub Rising : List Entry → Type 0
Rising es = T (is_sorted by_bytes es)

abbrev pub Above : List ℕ → List Entry → Type 0
Above k es = T (below_all by_bytes k es)

abbrev IsBefore : List ℕ → Entry → Type 0
IsBefore k e = T (is_lt (by_bytes e.0 k))

abbrev AllBefore : List ℕ → List Entry → Type 0
AllBefore k es = AllByRecursion (IsBefore k) es

-- ---- two lists in order, one after the other

above_front : (k : List ℕ) (xs ys : List Entry) → Above k (xs ++ ys) → Above k xs
above_front k [] ys h = tt
above_front k (x ∷ xs) ys h = both _ _ (first _ _ h) (above_front k xs ys (second _ _ h))

above_back : (k : List ℕ) (xs ys : List Entry) → Above k (xs ++ ys) → Above k ys
above_back k [] ys h = h
above_back k (x ∷ xs) ys h = above_back k xs ys (second _ _ h)

pub rising_front : (xs ys : List Entry) → Rising (xs ++ ys) → Rising xs
rising_front [] ys h = tt
rising_front (x ∷ xs) ys h = both _ _ (above_front x.0 xs ys (first _ _ h)) (rising_front xs ys (second _ _ h))

pub rising_back : (xs ys : List Entry) → Rising (xs ++ ys) → Rising ys
rising_back [] ys h = h
rising_back (x ∷ xs) ys h = rising_back xs ys (second _ _ h)

before_later : (p q k : List ℕ) → T (is_lt (by_bytes p q)) → is_le (by_bytes q k) ≡ true → T (is_lt (by_bytes p k))
before_later p q k a b =
    elim (by_bytes q k) as (λ r. by_bytes q k ≡ r → is_le r ≡ true → T (is_lt (by_bytes p k))) [
      | Less ↦ λ e _. trans p q k a (is_less q k e)
      | Equal ↦ λ e _. subst (λ r. T (is_lt (by_bytes p r))) (fin.slice_cmp-IsAntisymmetric fin.nat_cmp-IsAntisymmetric q k e) a
      | Greater ↦ λ e t. absurd (cc)
    ] refl b

front_before : (k : List ℕ) (xs : List Entry) (e : Entry) (ys : List Entry) → Rising (xs ++ (e ∷ ys)) → is_le (by_bytes e.0 k) ≡ true → AllBefore k xs
front_before k [] e ys h t = tt
front_before k (x ∷ xs) e ys h t =
    (before_later x.0 e.0 k (first _ _ (above_back x.0 xs (e ∷ ys) (first _ _ h))) t, front_before k xs e ys (second _ _ h) t)

back_after : (k : List ℕ) (e : Entry) (ys : List Entry) → Rising (e ∷ ys) → is_le (by_bytes e.0 k) ≡ false → Above k (e ∷ ys)
back_after k e ys h t =
    let ahead : T (is_lt (by_bytes k e.0)) = elim (by_bytes e.0 k) as (λ r. by_bytes e.0 k ≡ r → is_le r ≡ false → T (is_lt (by_bytes k e.0))) [
      | Less ↦ λ p f. absurd (cc)
      | Equal ↦ λ p f. absurd (cc)
      | Greater ↦ λ p f. is_less k e.0 (turned e.0 k Greater p)
    ] refl t in
    both _ _ ahead (below_later k e.0 ys ahead (first _ _ h))

-- ---- the entries before the block of a path, and those after it

pub record Around (k : List ℕ) (bs : List (Vec Entry)) (at : ℕ) : Type 0 where
  pub front : AllBefore k (flat (take at bs))
  pub back : Above k (flat (drop (suc at) bs))

around : (k : List ℕ) (b : Vec Entry) (bs : List (Vec Entry)) → Rising (b.items ++ flat bs) → AllFilled bs → Around k (b ∷ bs) (begun k bs)
around k b [] h filled = record { front = tt; back = tt }
around k b (c ∷ cs) h filled = by c.items refl (λ r. around k c cs r filled.1)
  where
    by : (es : List Entry) → c.items ≡ es → (Rising (c.items ++ flat cs) → Around k (c ∷ cs) (begun k cs)) → Around k (b ∷ c ∷ cs) (begun k (c ∷ cs))
    by [] is later = absurd (let l = filled.0 in let no : length c.items ≡ 0 = ap length is in omega (arith, l, no))
    by (e ∷ es) is later =
        let here : Rising (b.items ++ (e ∷ (es ++ flat cs))) = subst (λ fs. Rising (b.items ++ (fs ++ flat cs))) is h in
        subst (λ fs. Around k (b ∷ c ∷ cs) (cond (begins_at_or_before k fs) (suc (begun k cs)) 0)) (sym is)
        (elim (is_le (by_bytes e.0 k)) as (λ t. is_le (by_bytes e.0 k) ≡ t → Around k (b ∷ c ∷ cs) (cond t (suc (begun k cs)) 0)) [
          | true ↦ λ t.
              let rest = later (rising_back b.items (flat (c ∷ cs)) h) in
              record { front = all_joined (IsBefore k) b.items _ (front_before k b.items e (es ++ flat cs) here t) rest.front; back = rest.back }
          | false ↦ λ t. record {
            front = tt;
            back = subst (λ fs. Above k (fs ++ flat cs)) (sym is) (back_after k e (es ++ flat cs) (rising_back b.items (e ∷ (es ++ flat cs)) here) t);
          }
        ] refl)

pub begun_within : (k : List ℕ) (bs : List (Vec Entry)) → begun k bs ≤ length bs
begun_within k [] = omega arith
begun_within k (b ∷ bs) =
    let rest = begun_within k bs in
    elim (begins_at_or_before k b.items) as (λ t. cond t (suc (begun k bs)) 0 ≤ suc (length bs)) [ true ↦ omega arith | false ↦ omega arith ]

pub spot_within : (k : List ℕ) (bs : List (Vec Entry)) → block_for k bs ≤ length bs
spot_within k [] = omega arith
spot_within k (b ∷ bs) = let rest = begun_within k bs in omega (arith, rest)

pub spot_there : (k : List ℕ) (bs : List (Vec Entry)) → 0 < length bs → block_for k bs < length bs
spot_there k [] some = absurd (omega arith)
spot_there k (b ∷ bs) some = let rest = begun_within k bs in omega (arith, rest)

pub nothing_flat : (k : List ℕ) (bs : List (Vec Entry)) → length bs ≤ block_for k bs → flat bs ≡ []
nothing_flat k [] over = refl
nothing_flat k (b ∷ bs) over = let within = begun_within k bs in absurd (omega (arith, within))

pub around_spot : (k : List ℕ) (bs : List (Vec Entry)) → Rising (flat bs) → AllFilled bs → Around k bs (block_for k bs)
around_spot k [] h filled = record { front = tt; back = tt }
around_spot k (b ∷ bs) h filled = around k b bs h filled.1

-- ---- the parts of a list of blocks

pub flat_parts : (bs : List (Vec Entry)) (at : ℕ) (d : Vec Entry) → at < length bs
    → flat bs ≡ flat (take at bs) ++ ((slice_index_or bs at d).items ++ flat (drop (suc at) bs))
flat_parts [] at d within = absurd (omega arith)
flat_parts (b ∷ bs) zero d within = refl
flat_parts (b ∷ bs) (suc at) d within = ap (λ es. b.items ++ es) (flat_parts bs at d (omega arith)) ∙ sym (append_assoc b.items (flat (take at bs)) _)

pub flat_set : (bs : List (Vec Entry)) (at : ℕ) (c : Vec Entry) → at < length bs
    → flat (slice_set bs at c) ≡ flat (take at bs) ++ (c.items ++ flat (drop (suc at) bs))
flat_set [] at c within = absurd (omega arith)
flat_set (b ∷ bs) zero c within = refl
flat_set (b ∷ bs) (suc at) c within = ap (λ es. b.items ++ es) (flat_set bs at c (omega arith)) ∙ sym (append_assoc b.items (flat (take at bs)) _)

pub flat_emptied : (bs : List (Vec Entry)) (at : ℕ) (c : Vec Entry) → at < length bs → c.items ≡ []
    → flat (remove (slice_set bs at c) at) ≡ flat (slice_set bs at c)
flat_emptied [] at c within none = absurd (omega arith)
flat_emptied (b ∷ bs) zero c within none = sym (ap (λ es. es ++ flat bs) none)
flat_emptied (b ∷ bs) (suc at) c within none = ap (λ es. b.items ++ es) (flat_emptied bs at c (omega arith) none)

pub flat_cut : (bs : List (Vec Entry)) (at : ℕ) (d lower upper : Vec Entry) → at < length bs → lower.items ++ upper.items ≡ (slice_index_or bs at d).items
    → flat (insert (slice_set bs at lower) (suc at) upper) ≡ flat bs
flat_cut [] at d lower upper within is = absurd (omega arith)
flat_cut (b ∷ bs) zero d lower upper within is = sym (append_assoc lower.items upper.items (flat bs)) ∙ ap (λ es. es ++ flat bs) is
flat_cut (b ∷ bs) (suc at) d lower upper within is = ap (λ es. b.items ++ es) (flat_cut bs at d lower upper (omega arith) is)

pub filled_set : (bs : List (Vec Entry)) (at : ℕ) (c : Vec Entry) → AllFilled bs → 0 < length c.items → AllFilled (slice_set bs at c)
filled_set [] at c filled some = tt
filled_set (b ∷ bs) zero c filled some = (some, filled.1)
filled_set (b ∷ bs) (suc at) c filled some = (filled.0, filled_set bs at c filled.1 some)

pub filled_removed : (bs : List (Vec Entry)) (at : ℕ) (c : Vec Entry) → AllFilled bs → AllFilled (remove (slice_set bs at c) at)
filled_removed [] zero c filled = tt
filled_removed [] (suc at) c filled = tt
filled_removed (b ∷ bs) zero c filled = filled.1
filled_removed (b ∷ bs) (suc at) c filled = (filled.0, filled_removed bs at c filled.1)

pub filled_inserted : (bs : List (Vec Entry)) (at : ℕ) (c : Vec Entry) → AllFilled bs → 0 < length c.items → AllFilled (insert bs at c)
filled_inserted [] zero c filled some = (some, tt)
filled_inserted [] (suc at) c filled some = (some, tt)
filled_inserted (b ∷ bs) zero c filled some = (some, filled)
filled_inserted (b ∷ bs) (suc at) c filled some = (filled.0, filled_inserted bs at c filled.1 some)

pub filled_at : (bs : List (Vec Entry)) (at : ℕ) (d : Vec Entry) → at < length bs → AllFilled bs → 0 < length (slice_index_or bs at d).items
filled_at [] at d within filled = absurd (omega arith)
filled_at (b ∷ bs) zero d within filled = filled.0
filled_at (b ∷ bs) (suc at) d within filled = filled_at bs at d (omega arith) filled.1

pub rising_block : (bs : List (Vec Entry)) (at : ℕ) (d : Vec Entry) → at < length bs → Rising (flat bs) → Rising (slice_index_or bs at d).items
rising_block bs at d within h =
    rising_front (slice_index_or bs at d).items (flat (drop (suc at) bs))
    (rising_back (flat (take at bs)) _ (subst Rising (flat_parts bs at d within) h))

-- ---- a path that is neither before nor after a part of a list

behind : (k : List ℕ) (e : Entry) → T (is_lt (by_bytes e.0 k)) → by_bytes k e.0 ≡ Greater
behind k e h = turned e.0 k Less (less _ h)

put_behind : (k : List ℕ) (v : Option Content) (xs ys : List Entry) → AllBefore k xs → put by_bytes k v (xs ++ ys) ≡ xs ++ put by_bytes k v ys
put_behind k v [] ys h = refl
put_behind k v (x ∷ xs) ys h =
    ap (λ r. by_order r ((k, v) ∷ x ∷ (xs ++ ys)) ((x.0, v) ∷ (xs ++ ys)) (x ∷ put by_bytes k v (xs ++ ys))) (behind k x h.0)
    ∙ ap (λ es. x ∷ es) (put_behind k v xs ys h.1)

put_ahead : (k : List ℕ) (v : Option Content) (ys zs : List Entry) → Above k zs → put by_bytes k v (ys ++ zs) ≡ put by_bytes k v ys ++ zs
put_ahead k v [] [] h = refl
put_ahead k v [] (z ∷ zs) h = ap (λ r. by_order r ((k, v) ∷ z ∷ zs) ((z.0, v) ∷ zs) (z ∷ put by_bytes k v zs)) (less _ (first _ _ h))
put_ahead k v (y ∷ ys) zs h =
    elim (by_bytes k y.0) as (λ r. by_order r ((k, v) ∷ y ∷ (ys ++ zs)) ((y.0, v) ∷ (ys ++ zs)) (y ∷ put by_bytes k v (ys ++ zs))
    ≡ by_order r ((k, v) ∷ y ∷ ys) ((y.0, v) ∷ ys) (y ∷ put by_bytes k v ys) ++ zs) [
      | Less ↦ refl
      | Equal ↦ refl
      | Greater ↦ ap (λ es. y ∷ es) (put_ahead k v ys zs h)
    ]

pub find_behind : (k : List ℕ) (xs ys : List Entry) → AllBefore k xs → find by_bytes k (xs ++ ys) ≡ find by_bytes k ys
find_behind k [] ys h = refl
find_behind k (x ∷ xs) ys h =
    ap (λ r. cond (is_eq r) (Some x.1) (find by_bytes k (xs ++ ys))) (behind k x h.0) ∙ find_behind k xs ys h.1

pub find_ahead : (k : List ℕ) (ys zs : List Entry) → Above k zs → find by_bytes k (ys ++ zs) ≡ find by_bytes k ys
find_ahead k [] zs h = none_above k zs h
find_ahead k (y ∷ ys) zs h = ap (λ o. cond (is_eq (by_bytes k y.0)) (Some y.1) o) (find_ahead k ys zs h)

without_behind : (k : List ℕ) (xs ys : List Entry) → AllBefore k xs → without k (xs ++ ys) ≡ xs ++ without k ys
without_behind k [] ys h = refl
without_behind k (x ∷ xs) ys h =
    ap (λ r. cond (not (is_eq r)) (x ∷ without k (xs ++ ys)) (without k (xs ++ ys))) (behind k x h.0) ∙ ap (λ es. x ∷ es) (without_behind k xs ys h.1)

without_ahead : (k : List ℕ) (ys zs : List Entry) → Above k zs → without k (ys ++ zs) ≡ without k ys ++ zs
without_ahead k [] zs h = sym (without_none k zs (none_above k zs h))
without_ahead k (y ∷ ys) zs h =
    elim (same_path k y.0) as (λ b. cond (not b) (y ∷ without k (ys ++ zs)) (without k (ys ++ zs)) ≡ cond (not b) (y ∷ without k ys) (without k ys) ++ zs) [
      | true ↦ without_ahead k ys zs h
      | false ↦ ap (λ es. y ∷ es) (without_ahead k ys zs h)
    ]

abbrev from_on : List ℕ → List Entry → List Entry
from_on k es = drop (place k es) es

from_behind : (k : List ℕ) (xs ys : List Entry) → AllBefore k xs → from_on k (xs ++ ys) ≡ from_on k ys
from_behind k [] ys h = refl
from_behind k (x ∷ xs) ys h =
    ap (λ r. drop (cond (is_lt r) (suc (place k (xs ++ ys))) 0) (x ∷ (xs ++ ys))) (less _ h.0) ∙ from_behind k xs ys h.1

from_ahead : (k : List ℕ) (ys zs : List Entry) → Above k zs → from_on k (ys ++ zs) ≡ from_on k ys ++ zs
from_ahead k [] [] h = refl
from_ahead k [] (z ∷ zs) h = ap (λ r. drop (cond (is_lt r) (suc (place k zs)) 0) (z ∷ zs)) (turned k z.0 Less (less _ (first _ _ h)))
from_ahead k (y ∷ ys) zs h =
    elim (is_lt (by_bytes y.0 k)) as (λ b. drop (cond b (suc (place k (ys ++ zs))) 0) (y ∷ (ys ++ zs)) ≡ drop (cond b (suc (place k ys)) 0) (y ∷ ys) ++ zs) [
      | true ↦ from_ahead k ys zs h
      | false ↦ refl
    ]

-- ---- what is done in the block of a path is done in the list

module _ (k : List ℕ) (bs : List (Vec Entry)) (at : ℕ) (d : Vec Entry) where
  pub put_flat : (v : Option Content) (c : Vec Entry) → Rising (flat bs) → AllFilled bs → at ≡ block_for k bs → at < length bs
      → c.items ≡ put by_bytes k v (slice_index_or bs at d).items → flat (slice_set bs at c) ≡ put by_bytes k v (flat bs)
  put_flat v c h filled is within done =
      let apart : Around k bs at = subst (Around k bs) (sym is) (around_spot k bs h filled) in
      flat_set bs at c within
      ∙ ap (λ es. flat (take at bs) ++ (es ++ flat (drop (suc at) bs))) done
      ∙ ap (λ es. flat (take at bs) ++ es) (sym (put_ahead k v (slice_index_or bs at d).items (flat (drop (suc at) bs)) apart.back))
      ∙ sym (put_behind k v (flat (take at bs)) _ apart.front)
      ∙ ap (put by_bytes k v) (sym (flat_parts bs at d within))

  pub find_flat : Rising (flat bs) → AllFilled bs → at ≡ block_for k bs → at < length bs → find by_bytes k (flat bs) ≡ find by_bytes k (slice_index_or bs at d).items
  find_flat h filled is within =
      let apart : Around k bs at = subst (Around k bs) (sym is) (around_spot k bs h filled) in
      ap (find by_bytes k) (flat_parts bs at d within)
      ∙ find_behind k (flat (take at bs)) _ apart.front
      ∙ find_ahead k (slice_index_or bs at d).items (flat (drop (suc at) bs)) apart.back

  pub without_flat : (c : Vec Entry) → Rising (flat bs) → AllFilled bs → at ≡ block_for k bs → at < length bs
      → c.items ≡ without k (slice_index_or bs at d).items → flat (slice_set bs at c) ≡ without k (flat bs)
  without_flat c h filled is within done =
      let apart : Around k bs at = subst (Around k bs) (sym is) (around_spot k bs h filled) in
      flat_set bs at c within
      ∙ ap (λ es. flat (take at bs) ++ (es ++ flat (drop (suc at) bs))) done
      ∙ ap (λ es. flat (take at bs) ++ es) (sym (without_ahead k (slice_index_or bs at d).items (flat (drop (suc at) bs)) apart.back))
      ∙ sym (without_behind k (flat (take at bs)) _ apart.front)
      ∙ ap (without k) (sym (flat_parts bs at d within))

  pub from_flat : Rising (flat bs) → AllFilled bs → at ≡ block_for k bs → at < length bs
      → from_on k (slice_index_or bs at d).items ++ flat (drop (suc at) bs) ≡ from_on k (flat bs)
  from_flat h filled is within =
      let apart : Around k bs at = subst (Around k bs) (sym is) (around_spot k bs h filled) in
      sym (from_ahead k (slice_index_or bs at d).items (flat (drop (suc at) bs)) apart.back)
      ∙ sym (from_behind k (flat (take at bs)) _ apart.front)
      ∙ ap (from_on k) (sym (flat_parts bs at d within))

-- ---- a search among blocks

pub begun_is : (k : List ℕ) (bs : List (Vec Entry)) (i : ℕ) → i ≤ length bs → IsPartitionPoint (λ b. begins_at_or_before k b.items ≡ true) (λ b. begins_at_or_before k b.items ≡ false) bs i → i ≡ begun k bs
begun_is k [] i within point = omega arith
begun_is k (b ∷ bs) zero within point = sym (ap (λ t. cond t (suc (begun k bs)) 0) (point.1 0 b (omega arith) (omega arith)))
begun_is k (b ∷ bs) (suc i) within point =
    ap suc (begun_is k bs i (omega arith) ((λ j d low high. point.0 (suc j) d (omega arith) (omega arith)), (λ j d low high. point.1 (suc j) d (omega arith) (omega arith))))
    ∙ sym (ap (λ t. cond t (suc (begun k bs)) 0) (point.0 0 b (omega arith) (omega arith)))

le_before : (p q k : List ℕ) → T (is_lt (by_bytes p q)) → is_le (by_bytes q k) ≡ true → is_le (by_bytes p k) ≡ true
le_before p q k a b = ap is_le (less _ (before_later p q k a b))

begins_before : (k : List ℕ) (b : Vec Entry) (bs : List (Vec Entry)) (j : ℕ) (d : Vec Entry) → j < length bs → Rising (b.items ++ flat bs) → 0 < length b.items
    → begins_at_or_before k (slice_index_or bs j d).items ≡ true → begins_at_or_before k b.items ≡ true
begins_before k b bs j d within h some up = by b.items (slice_index_or bs j d).items refl refl some up
  where
    above_there : (x : List ℕ) (cs : List (Vec Entry)) (j : ℕ) (e : Entry) (es : List Entry) → j < length cs → Above x (flat cs) → (slice_index_or cs j d).items ≡ e ∷ es → T (is_lt (by_bytes x e.0))
    above_there x [] j e es low a is = absurd (omega arith)
    above_there x (c ∷ cs) zero e es low a is = first _ _ (subst (λ fs. Above x (fs ++ flat cs)) is a)
    above_there x (c ∷ cs) (suc j) e es low a is = above_there x cs j e es (omega arith) (above_back x c.items (flat cs) a) is

    by : (xs ys : List Entry) → b.items ≡ xs → (slice_index_or bs j d).items ≡ ys → 0 < length xs → begins_at_or_before k ys ≡ true → begins_at_or_before k xs ≡ true
    by [] ys is there some up = absurd (omega arith)
    by (x ∷ xs) [] is there some up = absurd (cc)
    by (x ∷ xs) (y ∷ ys) is there some up =
        let here : Rising (x ∷ (xs ++ flat bs)) = subst (λ fs. Rising (fs ++ flat bs)) is h in
        le_before x.0 y.0 k (above_there x.0 bs j y ys within (above_back x.0 xs (flat bs) (first _ _ here)) there) up

pub blocks_parted : (k : List ℕ) (bs : List (Vec Entry)) → Rising (flat bs) → AllFilled bs → IsPartitionedBy (λ b. begins_at_or_before k b.items) bs
blocks_parted k [] h filled i j d low within up = absurd (omega arith)
blocks_parted k (b ∷ bs) h filled zero zero d low within up = up
blocks_parted k (b ∷ bs) h filled (suc i) zero d low within up = absurd (omega arith)
blocks_parted k (b ∷ bs) h filled zero (suc j) d low within up = begins_before k b bs j d (omega arith) h filled.0 up
blocks_parted k (b ∷ bs) h filled (suc i) (suc j) d low within up = blocks_parted k bs (rising_back b.items (flat bs) h) filled.1 i j d (omega arith) (omega arith) up

-- ---- what is left of a list of blocks from a place on

pub first_left : (bs : List (Vec Entry)) (at : ℕ) (b : Vec Entry) (later : List (Vec Entry)) → drop at bs ≡ b ∷ later
    → (at < length bs) × (slice_index_or bs at b ≡ b) × (drop (suc at) bs ≡ later)
first_left [] zero b later is = absurd (cc)
first_left [] (suc at) b later is = absurd (cc)
first_left (c ∷ cs) zero b later is = (omega arith, (cc), (cc))
first_left (c ∷ cs) (suc at) b later is = let rest = first_left cs at b later is in (omega (arith, rest.0), rest.1, rest.2)

pub none_left : (bs : List (Vec Entry)) (at : ℕ) → length (drop at bs) ≡ 0 → length bs ≤ at
none_left [] at is = omega arith
none_left (c ∷ cs) zero is = absurd (omega arith)
none_left (c ∷ cs) (suc at) is = let rest = none_left cs at is in omega (arith, rest)

pub no_items : (b : Vec Entry) → vec_len b ≡ 0 → b.items ≡ []
no_items b none = by b.items (omega (arith, none, b.ok.0))
  where
    by : (es : List Entry) → length es ≡ 0 → es ≡ []
    by [] e = refl
    by (x ∷ xs) e = absurd (omega arith)

pub put_some : (k : List ℕ) (v : Option Content) (es fs : List Entry) → fs ≡ put by_bytes k v es → 0 < length fs
put_some k v es fs is = subst (λ gs. 0 < length gs) (sym is) (by es)
  where
    by : (es : List Entry) → 0 < length (put by_bytes k v es)
    by [] = omega arith
    by (x ∷ xs) =
        elim (by_bytes k x.0) as (λ r. 0 < length (by_order r ((k, v) ∷ x ∷ xs) ((x.0, v) ∷ xs) (x ∷ put by_bytes k v xs))) [
          | Less ↦ omega arith
          | Equal ↦ omega arith
          | Greater ↦ omega arith
        ]

-- a block that has the same entries
pub flat_kept : (bs : List (Vec Entry)) (at : ℕ) (d c : Vec Entry) → at < length bs → c.items ≡ (slice_index_or bs at d).items → flat (slice_set bs at c) ≡ flat bs
flat_kept bs at d c within is =
    flat_set bs at c within ∙ ap (λ es. flat (take at bs) ++ (es ++ flat (drop (suc at) bs))) is ∙ sym (flat_parts bs at d within)

pub cut_filled : (bs : List (Vec Entry)) (at : ℕ) (lower upper : Vec Entry) → AllFilled bs → 0 < length lower.items → 0 < length upper.items
    → AllFilled (insert (slice_set bs at lower) (suc at) upper)
cut_filled bs at lower upper filled low high = filled_inserted (slice_set bs at lower) (suc at) upper (filled_set bs at lower filled low) high

pub there_alike : (bs : List (Vec Entry)) (at : ℕ) (d e : Vec Entry) → at < length bs → slice_index_or bs at d ≡ slice_index_or bs at e
there_alike [] at d e within = absurd (omega arith)
there_alike (b ∷ bs) zero d e within = refl
there_alike (b ∷ bs) (suc at) d e within = there_alike bs at d e (omega arith)

-- ---- a list of blocks that grows

pub flat_pushed : (bs : List (Vec Entry)) (c : Vec Entry) → flat (bs ++ (c ∷ [])) ≡ flat bs ++ c.items
flat_pushed [] c = append-nil c.items
flat_pushed (b ∷ bs) c = ap (λ es. b.items ++ es) (flat_pushed bs c) ∙ sym (append_assoc b.items (flat bs) c.items)

pub filled_pushed : (bs : List (Vec Entry)) (c : Vec Entry) → AllFilled bs → 0 < length c.items → AllFilled (bs ++ (c ∷ []))
filled_pushed [] c filled some = (some, tt)
filled_pushed (b ∷ bs) c filled some = (filled.0, filled_pushed bs c filled.1 some)

pub flat_taken : (bs : List (Vec Entry)) (i : ℕ) (b : Vec Entry) → i < length bs → b ≡ slice_index_or bs i b → flat (take (i + 1) bs) ≡ flat (take i bs) ++ b.items
flat_taken bs i b within is = ap (λ n. flat (take n bs)) (add-one i) ∙ by bs i within is
  where
    by : (bs : List (Vec Entry)) (i : ℕ) → i < length bs → b ≡ slice_index_or bs i b → flat (take (suc i) bs) ≡ flat (take i bs) ++ b.items
    by [] i within is = absurd (omega arith)
    by (x ∷ xs) zero within is = append-nil x.items ∙ ap (λ c. c.items) (sym is)
    by (x ∷ xs) (suc i) within is = ap (λ es. x.items ++ es) (by xs i (omega arith) is) ∙ sym (append_assoc x.items (flat (take i xs)) b.items)

-- ---- how many entries there are

-- one more, where the path is new
pub counted_put : (k : List ℕ) (v : Option Content) (es fs : List Entry) (new : Bool) → Rising es → fs ≡ put by_bytes k v es → new ≡ is_none (find by_bytes k es)
    → length fs ≡ length es + from_bool new
counted_put k v es fs new h is told =
    ap length is ∙ length-put by_bytes nat_list_cmp_total k v es h ∙ by (is_some (find by_bytes k es)) ∙ ap (λ b. length es + from_bool b) (sym told)
  where
    by : (b : Bool) → cond b (length es) (length es + 1) ≡ length es + from_bool (not b)
    by true = omega arith
    by false = refl

-- one fewer, where the path was there
pub counted_without : (k : List ℕ) (es fs : List Entry) (there : Bool) → Rising es → fs ≡ without k es → there ≡ is_some (find by_bytes k es)
    → from_bool there + length fs ≡ length es
counted_without k es fs there h is told =
    ap (λ b. from_bool b + length fs) told ∙ ap (λ n. from_bool (is_some (find by_bytes k es)) + n) (ap length is)
    ∙ by (is_some (find by_bytes k es)) (length (without k es))
    ∙ length_without by_bytes nat_list_cmp_total k es h
  where
    by : (b : Bool) (n : ℕ) → from_bool b + n ≡ cond b 1 0 + n
    by true n = refl
    by false n = refl

-- the count stays below a limit, where a new path finds room
pub still_below : (new : Bool) (count limit : ℕ) → count + 1 < limit → (new ≡ true → count + 2 < limit) → count + from_bool new + 1 < limit
still_below true count limit below room = let more = room refl in omega (arith, more)
still_below false count limit below room = omega (arith, below)

-- nothing is said of a new path
pub not_found : (o : Option (Option Content)) (new : Bool) → new ≡ is_none o → new ≡ true → o ≡ None
not_found None new is added = refl
not_found (Some file) new is added = absurd (let bad : false ≡ true = sym is ∙ added in cc)
