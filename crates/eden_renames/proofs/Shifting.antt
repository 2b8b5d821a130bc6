-- The entries after a rename: those below the old path are below the new one.
use Rattle.std.proofs.Common.{◌≡◌, ℕ, Bool, true, false, cond, not, T, ◌&&◌, ◌||◌, List, [], ◌∷◌, map, Option, Some, None, refl, sym, ap, subst, ◌∙◌}
use Rattle.std.specs.Prelude.{filter, if◌then◌else◌}
use Rattle.std.specs.Ordering.{is_lt}
use Rattle.std.specs.Cmp.Lexicographic.{nat_list_cmp_total}
use Rattle.std.specs.List.{AllByRecursion, list_any}
use Rattle.std.specs.FinMap as fin
use Rattle.std.specs.FinMap.{find, is_sorted, put}
use Rattle.std.specs.FinMap.Entries.{below_all, find-where_key, is_sorted-put}
use Rattle.eden_ids.specs.Paths.{lies_below}
use Rattle.eden_ids.specs.FileMaps.{same_path}
use Rattle.eden_ids.proofs.ByteOrder.{both, first, less, order, second}
use Rattle.eden_ids.proofs.FileMapLemmas.{same_order, same_path-is, same_path-other, same_path-refl}
use Rattle.eden_overlay.specs.Carried.{breaks, carried}
use Rattle.eden_overlay.proofs.CarriedLemmas.{carried-back, carried-below, carried_there, rest_below}
use Rattle.eden_objects.proofs.Rising.{prefix}
use Rattle.eden_renames.specs.Renames.{Entry, Renames, breaks_an_entry, dir_moved, source_dir}
use Rattle.eden_renames.specs.internal.Shifted.{IsShifted, arriving, shifted}
use Rattle.eden_renames.proofs.Nearest.{no}
use Rattle.eden_renames.proofs.DirRenamed.{get-dir_moved}

-- ---- a directory and one that is below another

pub both_ways : (a b : Bool) → (a ≡ true → b ≡ true) → (b ≡ true → a ≡ true) → a ≡ b
both_ways true true there back = refl
both_ways true false there back = sym (there refl)
both_ways false true there back = back refl
both_ways false false there back = refl

alike : (old new k dir : List ℕ) → lies_below k old ≡ true → lies_below dir new ≡ true → same_path dir (carried old new k) ≡ same_path (carried new old dir) k
alike old new k dir from into = both_ways (same_path dir (carried old new k)) (same_path (carried new old dir) k)
    (λ one. ap (λ d. same_path (carried new old d) k) (same_path-is dir (carried old new k) one) ∙ ap (λ d. same_path d k) (carried-back old new k from) ∙ same_path-refl k)
    (λ one.
    ap (λ d. same_path d (carried old new k)) (sym (carried-back new old dir into)) ∙ ap (λ d. same_path (carried old new d) (carried old new k)) (same_path-is (carried new old dir) k one)
    ∙ same_path-refl (carried old new k))

pub apart : (top p q : List ℕ) → lies_below p top ≡ true → lies_below q top ≡ false → same_path p q ≡ false
apart top p q inside out = same_path-other p q (λ same. no (sym inside ∙ ap (λ d. lies_below d top) same ∙ out))

pub turned : (top p q : List ℕ) → lies_below p top ≡ false → lies_below q top ≡ true → same_path p q ≡ false
turned top p q out inside = same_path-other p q (λ same. no (sym inside ∙ ap (λ d. lies_below d top) (sym same) ∙ out))

-- ---- the entries that come to be below the new path

-- below another directory, paths keep their order
pub same_order_there : (old new p q : List ℕ) → lies_below p old ≡ true → lies_below q old ≡ true → order (carried old new p) (carried old new q) ≡ order p q
same_order_there old new p q below other =
    let here = rest_below p old below in
    let there = rest_below q old other in
    (λ i. order ((ap (carried old new) here.1 ∙ carried_there old new (47 ∷ here.0)) i) ((ap (carried old new) there.1 ∙ carried_there old new (47 ∷ there.0)) i))
    ∙ prefix new (47 ∷ here.0) (47 ∷ there.0)
    ∙ sym (prefix old (47 ∷ here.0) (47 ∷ there.0))
    ∙ (λ i. order (sym here.1 i) (sym there.1 i))

module _ (old new : List ℕ) where
  arriving_after : (k : List ℕ) (es : List Entry) → lies_below k old ≡ true → T (below_all order k es) → T (below_all order (carried old new k) (arriving es old new))
  arriving_after k [] below after = tt
  arriving_after k (e ∷ es) below after = by (lies_below e.0 old) refl (arriving_after k es below (second _ _ after))
    where
      by : (b : Bool) → lies_below e.0 old ≡ b → T (below_all order (carried old new k) (arriving es old new))
          → T (below_all order (carried old new k) (map (λ (x : Entry). (carried old new x.0, x.1)) (cond b (e ∷ filter (λ x. lies_below x.0 old) es) (filter (λ x. lies_below x.0 old) es))))
      by true other rest =
          both _ _ (subst (λ r. T (is_lt r)) (sym (same_order_there old new k e.0 below other ∙ less _ (first _ _ after))) tt) rest
      by false other rest = rest

  -- they are in byte order, since those below the old path do
  pub arriving_sorted : (es : List Entry) → T (is_sorted order es) → T (is_sorted order (arriving es old new))
  arriving_sorted [] sorted = tt
  arriving_sorted (e ∷ es) sorted = by (lies_below e.0 old) refl (arriving_sorted es (second _ _ sorted))
    where
      by : (b : Bool) → lies_below e.0 old ≡ b → T (is_sorted order (arriving es old new))
          → T (is_sorted order (map (λ (x : Entry). (carried old new x.0, x.1)) (cond b (e ∷ filter (λ x. lies_below x.0 old) es) (filter (λ x. lies_below x.0 old) es))))
      by true below rest = both _ _ (arriving_after e.0 es below (first _ _ sorted)) rest
      by false below rest = rest

  pub arriving_below : (es : List Entry) → AllByRecursion (λ (e : Entry). lies_below e.0 new ≡ true) (arriving es old new)
  arriving_below [] = tt
  arriving_below (e ∷ es) = by (lies_below e.0 old) refl (arriving_below es)
    where
      by : (b : Bool) → lies_below e.0 old ≡ b → AllByRecursion (λ (x : Entry). lies_below x.0 new ≡ true) (arriving es old new)
          → AllByRecursion (λ (x : Entry). lies_below x.0 new ≡ true)
          (map (λ (x : Entry). (carried old new x.0, x.1)) (cond b (e ∷ filter (λ x. lies_below x.0 old) es) (filter (λ x. lies_below x.0 old) es)))
      by true below rest = (carried-below old new e.0 below, rest)
      by false below rest = rest

  -- what is said of a directory there was said at its old place
  arriving_found : (es : List Entry) (dir : List ℕ) → lies_below dir new ≡ true → find order dir (arriving es old new) ≡ find order (carried new old dir) es
  arriving_found [] dir into = refl
  arriving_found (e ∷ es) dir into = by (lies_below e.0 old) refl (arriving_found es dir into)
    where
      by : (b : Bool) → lies_below e.0 old ≡ b → find order dir (arriving es old new) ≡ find order (carried new old dir) es
          → find order dir (map (λ (x : Entry). (carried old new x.0, x.1)) (cond b (e ∷ filter (λ x. lies_below x.0 old) es) (filter (λ x. lies_below x.0 old) es)))
          ≡ cond (same_path (carried new old dir) e.0) (Some e.1) (find order (carried new old dir) es)
      by true from rest = (λ i. cond (alike old new e.0 dir from into i) (Some e.1) (rest i))
      by false from rest = rest ∙ sym (ap (λ b. cond b (Some e.1) (find order (carried new old dir) es)) (apart old (carried new old dir) e.0 (carried-below new old dir into) from))

-- ---- the entries that stay where they are

abbrev pub left_out : List ℕ → List Entry → List Entry
left_out top es = filter (λ e. not (lies_below e.0 top)) es

pub left_found : (top dir : List ℕ) (es : List Entry) → find order dir (left_out top es) ≡ (if lies_below dir top then None else find order dir es)
left_found top dir es =
    find-where_key order (λ q. not (lies_below q top)) dir (λ q same. ap (λ d. not (lies_below d top)) (sym (same_order dir q same))) es ∙ swapped (lies_below dir top)
  where
    swapped : (b : Bool) → cond (not b) (find order dir es) None ≡ cond b None (find order dir es)
    swapped true = refl
    swapped false = refl

-- after the entries below the old path were dropped and those below the new one replaced
pub shifted_found : (es rs : List Entry) (old new : List ℕ)
    → ((dir : List ℕ) → find order dir rs ≡ (if lies_below dir new then find order dir (arriving es old new) else find order dir (left_out old es)))
    → (dir : List ℕ) → find order dir rs ≡ shifted (λ d. find order d es) old new dir
shifted_found es rs old new finds dir = finds dir ∙ by (lies_below dir new) refl
  where
    by : (b : Bool) → lies_below dir new ≡ b
        → (if b then find order dir (arriving es old new) else find order dir (left_out old es))
        ≡ (if b then find order (carried new old dir) es else if lies_below dir old then None else find order dir es)
    by true into = arriving_found old new es dir into
    by false into = left_found old dir es

-- ---- the old path and the new one

pub shifted-whole : (renames m next : Renames) (old new : List ℕ) (source : Option (List ℕ)) → IsShifted (fin.get renames) old new m → source ≡ source_dir renames old
    → next ≡ (if lies_below old new then m else fin.insert m old None) → fin.insert next new source ≡ dir_moved renames old new
shifted-whole renames m next old new source is seen there =
    fin.same_map nat_list_cmp_total same_order (fin.insert next new source) (dir_moved renames old new)
    (λ dir. fin.get-insert nat_list_cmp_total next new source dir ∙ by dir (same_path dir new) (lies_below old new) (lies_below dir new) (same_path dir old) refl refl refl ∙ sym (get-dir_moved renames old new dir))
  where
    was : (dir : List ℕ) (inside : Bool) → lies_below old new ≡ inside
        → fin.get next dir ≡ (if inside then shifted (fin.get renames) old new dir else cond (same_path dir old) (Some None) (shifted (fin.get renames) old new dir))
    was dir true i = ap (λ n. fin.get n dir) (there ∙ ap (λ b. if b then m else fin.insert m old None) i) ∙ is dir
    was dir false i =
        ap (λ n. fin.get n dir) (there ∙ ap (λ b. if b then m else fin.insert m old None) i)
        ∙ fin.get-insert nat_list_cmp_total m old None dir ∙ ap (cond (same_path dir old) (Some None)) (is dir)

    by : (dir : List ℕ) (at inside into same : Bool) → lies_below old new ≡ inside → lies_below dir new ≡ into → same_path dir old ≡ same
        → cond at (Some source) (fin.get next dir)
        ≡ (if at then Some (source_dir renames old) else if lies_below dir new then fin.get renames (carried new old dir) else
        if same_path dir old then Some None else if lies_below dir old then None else fin.get renames dir)
    by dir true inside into same i w s = ap Some seen
    by dir false true true same i w s =
        was dir true i
        ∙ (λ j. if w j then fin.get renames (carried new old dir) else if lies_below dir old then None else fin.get renames dir)
        ∙ sym ((λ j. if w j then fin.get renames (carried new old dir) else if same_path dir old then Some None else if lies_below dir old then None else fin.get renames dir))
    by dir false true false true i w s = no (sym i ∙ ap (λ d. lies_below d new) (sym (same_path-is dir old s)) ∙ w)
    by dir false true false false i w s =
        was dir true i
        ∙ ap (λ b. if lies_below dir new then fin.get renames (carried new old dir) else if b then Some None else if lies_below dir old then None else fin.get renames dir) (sym s)
    by dir false false true true i w s = no (sym w ∙ ap (λ d. lies_below d new) (same_path-is dir old s) ∙ i)
    by dir false false true false i w s =
        was dir false i
        ∙ ap (λ b. cond b (Some None) (shifted (fin.get renames) old new dir)) s
        ∙ ap (λ b. if lies_below dir new then fin.get renames (carried new old dir) else if b then Some None else if lies_below dir old then None else fin.get renames dir) (sym s)
    by dir false false false true i w s =
        was dir false i
        ∙ ap (λ b. cond b (Some None) (shifted (fin.get renames) old new dir)) s
        ∙ sym ((λ j. if w j then fin.get renames (carried new old dir) else if s j then Some None else if lies_below dir old then None else fin.get renames dir))
    by dir false false false false i w s =
        was dir false i
        ∙ ap (λ b. cond b (Some None) (shifted (fin.get renames) old new dir)) s
        ∙ ap (λ b. if lies_below dir new then fin.get renames (carried new old dir) else if b then Some None else if lies_below dir old then None else fin.get renames dir) (sym s)

-- the map of entries after one was put in
from_sorted-put : (k : List ℕ) (v : Option (List ℕ)) (es fs : List Entry) → T (is_sorted order es) → fs ≡ put order k v es
    → fin.from_sorted {R = order} fs ≡ fin.insert (fin.from_sorted {R = order} es) k v
from_sorted-put k v es fs sorted is =
    ap (λ gs. fin.from_sorted {R = order} gs) is
    ∙ fin.same_entries_map _ _
    (fin.entries-from_sorted order (put order k v es) (is_sorted-put order nat_list_cmp_total k v es sorted)
    ∙ sym (fin.entries-insert nat_list_cmp_total (fin.from_sorted es) k v ∙ ap (put order k v) (fin.entries-from_sorted order es sorted)))

pub put_sorted : (k : List ℕ) (v : Option (List ℕ)) (es fs : List Entry) → T (is_sorted order es) → fs ≡ put order k v es → T (is_sorted order fs)
put_sorted k v es fs sorted is = subst (λ gs. T (is_sorted order gs)) (sym is) (is_sorted-put order nat_list_cmp_total k v es sorted)

-- what is said of the old path and of the new one makes the rename whole
pub whole_rename : (es shifted_to emptied done : List Entry) (old new : List ℕ) (source : Option (List ℕ)) → T (is_sorted order es) → T (is_sorted order shifted_to)
    → ((dir : List ℕ) → find order dir shifted_to ≡ shifted (λ d. find order d es) old new dir) → source ≡ source_dir (fin.from_sorted {R = order} es) old
    → emptied ≡ (if lies_below old new then shifted_to else put order old None shifted_to) → done ≡ put order new source emptied
    → fin.from_sorted {R = order} done ≡ dir_moved (fin.from_sorted es) old new
whole_rename es shifted_to emptied done old new source sorted shifted_sorted finds seen there put_is =
    from_sorted-put new source emptied done (still_sorted (lies_below old new) there) put_is
    ∙ shifted-whole (fin.from_sorted es) (fin.from_sorted shifted_to) (fin.from_sorted emptied) old new source is seen (by (lies_below old new) there)
  where
    is : IsShifted (fin.get (fin.from_sorted {R = order} es)) old new (fin.from_sorted {R = order} shifted_to)
    is dir =
        fin.get-from_sorted order shifted_to dir shifted_sorted
        ∙ finds dir
        ∙ (λ i. if lies_below dir new then sym (fin.get-from_sorted order es (carried new old dir) sorted) i else if lies_below dir old then None else sym (fin.get-from_sorted order es dir sorted) i)

    still_sorted : (b : Bool) → emptied ≡ (if b then shifted_to else put order old None shifted_to) → T (is_sorted order emptied)
    still_sorted true e = subst (λ gs. T (is_sorted order gs)) (sym e) shifted_sorted
    still_sorted false e = put_sorted old None shifted_to emptied shifted_sorted e

    by : (b : Bool) → emptied ≡ (if b then shifted_to else put order old None shifted_to)
        → fin.from_sorted {R = order} emptied ≡ (if b then fin.from_sorted shifted_to else fin.insert (fin.from_sorted shifted_to) old None)
    by true e = ap (λ gs. fin.from_sorted {R = order} gs) e
    by false e = from_sorted-put old None shifted_to emptied shifted_sorted e

-- ---- an entry that would break

pub breaks_alike : (renames : Renames) (old new : List ℕ) → breaks_an_entry renames old new ≡ list_any (λ e. breaks old new e.0) (filter (λ e. lies_below e.0 old) (fin.entries renames))
breaks_alike renames old new = by (fin.entries renames)
  where
    by : (es : List Entry) → list_any (λ dir. lies_below dir old && breaks old new dir) (map (λ e. e.0) es) ≡ list_any (λ e. breaks old new e.0) (filter (λ e. lies_below e.0 old) es)
    by [] = refl
    by (e ∷ es) =
        elim (lies_below e.0 old) as (λ b. ((b && breaks old new e.0) || list_any (λ dir. lies_below dir old && breaks old new dir) (map (λ e. e.0) es))
        ≡ list_any (λ e. breaks old new e.0) (cond b (e ∷ filter (λ e. lies_below e.0 old) es) (filter (λ e. lies_below e.0 old) es))) [
          | true ↦ ap (λ b. breaks old new e.0 || b) (by es)
          | false ↦ by es
        ]
