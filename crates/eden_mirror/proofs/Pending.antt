-- What the table of awaited paths says as it is filled, marked and swept.
use Rattle.std.proofs.Common.{◌≡◌, ℕ, suc, Bool, true, false, cond, not, ◌&&◌, ◌||◌, List, [], ◌∷◌, ◌++◌, filter, length, take, Option, Some, None, is_some, refl, sym, ap, subst, ◌∙◌, ◌+◌, ◌≤◌, arith}
use Rattle.std.proofs.lemmas.Bool.{or_parts, or_from}
use Rattle.std.proofs.Math.Seq.{take-append_seam}
use Rattle.std.proofs.lemmas.List.{append-nil, length-map, map-append}
use Rattle.std.proofs.lemmas.List.Elements.{filter-append}
use Rattle.std.proofs.lemmas.Map.Views.{any-filter_same}
use Rattle.std.specs.List.{AllByRecursion, IsDistinct, position}
use Rattle.std.specs.Map.{keys_of, lookup, set_value}
use Rattle.indexmap.specs.IndexMap.{insert_entry, set_value_at}
use Rattle.indexmap.proofs.MapLemmas.{Found-position, insert_entry-first, some_index}
use Rattle.eden_ids.specs.Sameness.{same_bytes}
use Rattle.eden_ids.specs.FileMaps.{same_path}
use Rattle.eden_ids.proofs.FileMapLemmas.{same_path-is, same_path-bytes, same_path-refl, same_path-turned}
use Rattle.eden_history.specs.declared.mark.Marked.{Marked}
use Rattle.eden_messages.specs.Mirrors.{distinct, is_among, without}
use Rattle.eden_messages.specs.Spells.{paths_of}
use Rattle.eden_mirror.specs.internal.Pending.{AreDistinct, IsCounted, fresh, pending}

abbrev pub Entries : Type 0
Entries = List (List ℕ × Bool)

-- the map's test and that of the definitions are one
tests : same_bytes ≡ same_path
tests = λ i p q. sym (same_path-bytes p q) i

-- no path of the list is this one
abbrev pub IsAbsent : List ℕ → List (List ℕ) → Type 0
IsAbsent k ps = AllByRecursion (λ p. same_path k p ≡ false) ps

-- ---- lists without a path

not_among : (k : List ℕ) (ps : List (List ℕ)) → IsAbsent k ps → is_among k ps ≡ false
not_among k [] h = refl
not_among k (p ∷ ps) h = or_from (same_path k p) _ h.0 (not_among k ps h.1)

absent : (k : List ℕ) (ps : List (List ℕ)) → is_among k ps ≡ false → IsAbsent k ps
absent k [] h = tt
absent k (p ∷ ps) h = let parts : (same_path k p ≡ false) × (is_among k ps ≡ false) = or_parts _ _ h in (parts.0, absent k ps parts.1)

kept : (k : List ℕ) (p : List ℕ) (ps : List (List ℕ)) → same_path k p ≡ false → without k (p ∷ ps) ≡ p ∷ without k ps
kept k p ps e = ap (λ b. cond (not b) (p ∷ without k ps) (without k ps)) (same_path-turned p k ∙ e)

dropped : (k : List ℕ) (p : List ℕ) (ps : List (List ℕ)) → same_path k p ≡ true → without k (p ∷ ps) ≡ without k ps
dropped k p ps e = ap (λ b. cond (not b) (p ∷ without k ps) (without k ps)) (same_path-turned p k ∙ e)

without-absent : (k : List ℕ) (ps : List (List ℕ)) → IsAbsent k ps → without k ps ≡ ps
without-absent k [] h = refl
without-absent k (p ∷ ps) h = kept k p ps h.0 ∙ ap (λ qs. p ∷ qs) (without-absent k ps h.1)

-- a path that is not there leaves all as it is when it is taken out
pub without-not_among : (k : List ℕ) (ps : List (List ℕ)) → is_among k ps ≡ false → ps ≡ without k ps
without-not_among k ps e = sym (without-absent k ps (absent k ps e))

among_without : (j k : List ℕ) (ps : List (List ℕ)) → is_among j (without k ps) ≡ (not (same_path j k) && is_among j ps)
among_without j k ps = any-filter_same (λ p. same_path j p) (λ p. not (same_path p k)) (not (same_path j k)) (λ p e. ap (λ q. not (same_path q k)) (sym (same_path-is j p e))) ps

all_filter : (Holds : List ℕ → Type 0) (test : List ℕ → Bool) (ps : List (List ℕ)) → AllByRecursion Holds ps → AllByRecursion Holds (filter test ps)
all_filter Holds test [] h = tt
all_filter Holds test (p ∷ ps) h = by (test p) (all_filter Holds test ps h.1)
  where
    by : (b : Bool) → AllByRecursion Holds (filter test ps) → AllByRecursion Holds (cond b (p ∷ filter test ps) (filter test ps))
    by true rest = (h.0, rest)
    by false rest = rest

-- some of the paths are distinct as all are
distinct_filter : (test : List ℕ → Bool) (ps : List (List ℕ)) → AreDistinct ps → AreDistinct (filter test ps)
unfolding IsDistinct
distinct_filter test [] h = tt
distinct_filter test (p ∷ ps) h = by (test p) (distinct_filter test ps h.1)
  where
    by : (b : Bool) → AreDistinct (filter test ps) → AreDistinct (cond b (p ∷ filter test ps) (filter test ps))
    by true rest = (all_filter (λ q. same_path p q ≡ false) test ps h.0, rest)
    by false rest = rest

pub distinct_without : (k : List ℕ) (ps : List (List ℕ)) → AreDistinct ps → AreDistinct (without k ps)
distinct_without k ps h = distinct_filter (λ p. not (same_path p k)) ps h

pub distinct_distinct : (ps : List (List ℕ)) → AreDistinct (distinct ps)
unfolding IsDistinct
distinct_distinct [] = tt
distinct_distinct (p ∷ ps) =
    (absent p (without p (distinct ps)) (among_without p p (distinct ps) ∙ ap (λ b. not b && is_among p (distinct ps)) (same_path-refl p)), distinct_without p (distinct ps) (distinct_distinct ps))

-- one path fewer, if it was there
pub length-without : (k : List ℕ) (ps : List (List ℕ)) → AreDistinct ps → is_among k ps ≡ true → length ps ≡ length (without k ps) + 1
unfolding IsDistinct
length-without k [] h e = cc
length-without k (p ∷ ps) h e = by (same_path k p) refl (λ f. length-without k ps h.1 (sym (ap (λ b. b || is_among k ps) f) ∙ e))
  where
    here : same_path k p ≡ true → IsAbsent k ps
    here f = subst (λ q. IsAbsent q ps) (sym (same_path-is k p f)) h.0

    by : (b : Bool) → same_path k p ≡ b → (same_path k p ≡ false → length ps ≡ length (without k ps) + 1) → length (p ∷ ps) ≡ length (without k (p ∷ ps)) + 1
    by true f rest =
        let same : length (without k (p ∷ ps)) ≡ length ps = ap length (dropped k p ps f ∙ without-absent k ps (here f)) in omega (arith, same)
    by false f rest =
        let same : length (without k (p ∷ ps)) ≡ suc (length (without k ps)) = ap length (kept k p ps f) in omega (arith, same, rest f)

-- ---- the table

-- what a look-up says of a path: it is awaited where it is there and not answered
abbrev pub waits : Option Bool → Bool
waits None = false
waits (Some answered) = not answered

absent_key : (k : List ℕ) (es : Entries) → IsAbsent k (keys_of es) → IsAbsent k (pending es)
absent_key k [] h = tt
absent_key k (e ∷ es) h = by e.1 (absent_key k es h.1)
  where
    by : (b : Bool) → IsAbsent k (pending es) → IsAbsent k (cond b (pending es) (e.0 ∷ pending es))
    by true rest = rest
    by false rest = (h.0, rest)

-- the paths that are awaited are distinct, as all of the table are
pub distinct_pending : (es : Entries) → AreDistinct (keys_of es) → AreDistinct (pending es)
unfolding IsDistinct
distinct_pending [] h = tt
distinct_pending (e ∷ es) h = by e.1 (distinct_pending es h.1)
  where
    by : (b : Bool) → AreDistinct (pending es) → AreDistinct (cond b (pending es) (e.0 ∷ pending es))
    by true rest = rest
    by false rest = (absent_key e.0 es h.0, rest)

found : (k : List ℕ) (es : Entries) → AreDistinct (keys_of es) → is_among k (pending es) ≡ waits (lookup (same_path k) es)
unfolding IsDistinct
found k [] h = refl
found k (e ∷ es) h = by e.1 (same_path k e.0) refl (found k es h.1)
  where
    none : same_path k e.0 ≡ true → is_among k (pending es) ≡ false
    none f = not_among k (pending es) (absent_key k es (subst (λ q. IsAbsent q (keys_of es)) (sym (same_path-is k e.0 f)) h.0))

    by : (a b : Bool) → same_path k e.0 ≡ b → is_among k (pending es) ≡ waits (lookup (same_path k) es)
        → is_among k (cond a (pending es) (e.0 ∷ pending es)) ≡ waits (cond b (Some a) (lookup (same_path k) es))
    by true true f rest = none f
    by true false f rest = rest
    by false true f rest = ap (λ c. c || is_among k (pending es)) f
    by false false f rest = ap (λ c. c || is_among k (pending es)) f ∙ rest

-- an answered path is awaited no longer
marked : (k : List ℕ) (es : Entries) → AreDistinct (keys_of es) → pending (set_value (same_path k) es true) ≡ without k (pending es)
unfolding IsDistinct
marked k [] h = refl
marked k (e ∷ es) h = by e.1 (same_path k e.0) refl (marked k es h.1)
  where
    all : same_path k e.0 ≡ true → without k (pending es) ≡ pending es
    all f = without-absent k (pending es) (absent_key k es (subst (λ q. IsAbsent q (keys_of es)) (sym (same_path-is k e.0 f)) h.0))

    by : (a b : Bool) → same_path k e.0 ≡ b → pending (set_value (same_path k) es true) ≡ without k (pending es)
        → pending (cond b ((e.0, true) ∷ es) ((e.0, a) ∷ set_value (same_path k) es true)) ≡ without k (cond a (pending es) (e.0 ∷ pending es))
    by true true f rest = sym (all f)
    by true false f rest = rest
    by false true f rest = sym (dropped k e.0 (pending es) f ∙ all f)
    by false false f rest = ap (λ ps. e.0 ∷ ps) rest ∙ sym (kept k e.0 (pending es) f)

-- the same, by the map's own test
pub is_among-pending : (k : List ℕ) (es : Entries) → IsDistinct same_bytes (keys_of es) → is_among k (pending es) ≡ waits (lookup (same_bytes k) es)
is_among-pending k es h = found k es (subst (λ t. IsDistinct t (keys_of es)) tests h) ∙ ap (λ t. waits (lookup (t k) es)) (sym tests)

pub pending-set_value : (k : List ℕ) (es : Entries) → IsDistinct same_bytes (keys_of es) → pending (set_value (same_bytes k) es true) ≡ without k (pending es)
pending-set_value k es h = ap (λ t. pending (set_value (t k) es true)) tests ∙ marked k es (subst (λ t. IsDistinct t (keys_of es)) tests h)

-- at a key that is there a new value is put by `insert` as by a write
insert_there : (k : List ℕ) (es : Entries) → is_some (lookup (same_bytes k) es) ≡ true → insert_entry same_bytes es k true ≡ set_value (same_bytes k) es true
insert_there k [] there = absurd (cc)
insert_there k (e ∷ es) there = by (same_bytes k e.0) there (insert_there k es)
  where
    by : (b : Bool) → is_some (cond b (Some e.1) (lookup (same_bytes k) es)) ≡ true
        → (is_some (lookup (same_bytes k) es) ≡ true → insert_entry same_bytes es k true ≡ set_value (same_bytes k) es true)
        → cond b ((e.0, true) ∷ es) (e ∷ insert_entry same_bytes es k true) ≡ cond b ((e.0, true) ∷ es) (e ∷ set_value (same_bytes k) es true)
    by true h rest = refl
    by false h rest = ap (λ fs. e ∷ fs) (rest h)

-- a path that is marked at its place is awaited no longer
pub pending-marked : (k : List ℕ) (es : Entries) (i : ℕ) → IsDistinct same_bytes (keys_of es) → position (same_bytes k) (keys_of es) ≡ Some i
    → pending (set_value_at es i true) ≡ without k (pending es)
pending-marked k es i h at =
    ap pending (sym (insert_entry-first same_bytes k true es i (Found-position (same_bytes k) es i at).first)
    ∙ insert_there k es (sym (some_index (same_bytes k) es) ∙ ap is_some at))
    ∙ pending-set_value k es h

pub pending_distinct : (es : Entries) → IsDistinct same_bytes (keys_of es) → AreDistinct (pending es)
pending_distinct es h = distinct_pending es (subst (λ t. IsDistinct t (keys_of es)) tests h)

-- marked paths that are taken out of the table weren't awaited
pub pending-swept : (es : Entries) → pending (filter (λ e. not e.1) es) ≡ pending es
pending-swept [] = refl
pending-swept (e ∷ es) = by e.1 (pending-swept es)
  where
    by : (b : Bool) → pending (filter (λ f. not f.1) es) ≡ pending es
        → pending (cond (not b) ((e.0, b) ∷ filter (λ f. not f.1) es) (filter (λ f. not f.1) es)) ≡ cond b (pending es) (e.0 ∷ pending es)
    by true rest = rest
    by false rest = ap (λ ps. e.0 ∷ ps) rest

-- ---- filling it

pub pending-fresh : (ps : List (List ℕ)) → pending (fresh ps) ≡ ps
pending-fresh [] = refl
pending-fresh (p ∷ ps) = ap (λ qs. p ∷ qs) (pending-fresh ps)

-- each path is counted as none is answered
pub length-pending-fresh : (ps : List (List ℕ)) → length (fresh ps) ≡ length (pending (fresh ps))
length-pending-fresh ps = length-map ps (λ p. (p, false)) ∙ ap length (sym (pending-fresh ps))

-- the list with a path after it, unless it is there
abbrev pub grown : List (List ℕ) → List ℕ → List (List ℕ)
grown ps k = cond (is_among k ps) ps (ps ++ k ∷ [])

grown_more : (p : List ℕ) (ps : List (List ℕ)) (k : List ℕ) → same_path k p ≡ false → p ∷ grown ps k ≡ grown (p ∷ ps) k
grown_more p ps k f = by (is_among k ps) (same_path k p) f
  where
    by : (a b : Bool) → b ≡ false → p ∷ cond a ps (ps ++ k ∷ []) ≡ cond (b || a) (p ∷ ps) (p ∷ ps ++ k ∷ [])
    by true true g = refl
    by false true g = cc
    by true false g = refl
    by false false g = refl

pub insert-fresh : (ps : List (List ℕ)) (k : List ℕ) → insert_entry same_path (fresh ps) k false ≡ fresh (grown ps k)
insert-fresh [] k = refl
insert-fresh (p ∷ ps) k = by (same_path k p) refl (insert-fresh ps k)
  where
    by : (b : Bool) → same_path k p ≡ b → insert_entry same_path (fresh ps) k false ≡ fresh (grown ps k)
        → cond b ((p, false) ∷ fresh ps) ((p, false) ∷ insert_entry same_path (fresh ps) k false) ≡ fresh (grown (p ∷ ps) k)
    by true f rest = sym (ap (λ c. fresh (cond (c || is_among k ps) (p ∷ ps) (p ∷ ps ++ k ∷ []))) f)
    by false f rest = ap (λ es. (p, false) ∷ es) rest ∙ ap fresh (grown_more p ps k f)

without-append : (k : List ℕ) (ps qs : List (List ℕ)) → without k (ps ++ qs) ≡ without k ps ++ without k qs
without-append k ps qs = filter-append (λ p. not (same_path p k)) ps qs

is_among-without : (k j : List ℕ) (ps : List (List ℕ)) → same_path j k ≡ false → is_among j (without k ps) ≡ is_among j ps
is_among-without k j ps apart = among_without j k ps ∙ ap (λ b. not b && is_among j ps) apart

-- one more path in the list is one more distinct path, unless it was there
distinct-more : (ps : List (List ℕ)) (k : List ℕ) → distinct (ps ++ k ∷ []) ≡ grown (distinct ps) k
distinct-more [] k = refl
distinct-more (p ∷ ps) k = by (same_path k p) refl (is_among k (distinct ps)) refl (distinct-more ps k)
  where
    -- what is after the first, where it is known whether the path is there
    behind : (a : Bool) → is_among k (distinct ps) ≡ a → distinct (ps ++ k ∷ []) ≡ grown (distinct ps) k
        → p ∷ without p (distinct (ps ++ k ∷ [])) ≡ p ∷ without p (cond a (distinct ps) (distinct ps ++ k ∷ []))
    behind a g rest = ap (λ qs. p ∷ without p qs) rest ∙ ap (λ c. p ∷ without p (cond c (distinct ps) (distinct ps ++ k ∷ []))) g

    whole : (c : Bool) → (same_path k p || is_among k (without p (distinct ps))) ≡ c
        → cond c (p ∷ without p (distinct ps)) (p ∷ without p (distinct ps) ++ k ∷ []) ≡ grown (p ∷ without p (distinct ps)) k
    whole c e = sym (ap (λ x. cond x (p ∷ without p (distinct ps)) (p ∷ without p (distinct ps) ++ k ∷ [])) e)

    by : (b : Bool) → same_path k p ≡ b → (a : Bool) → is_among k (distinct ps) ≡ a → distinct (ps ++ k ∷ []) ≡ grown (distinct ps) k
        → p ∷ without p (distinct (ps ++ k ∷ [])) ≡ grown (p ∷ without p (distinct ps)) k
    by true f true g rest = behind true g rest ∙ whole true (ap (λ c. c || is_among k (without p (distinct ps))) f)
    by true f false g rest =
        behind false g rest
        ∙ ap (λ qs. p ∷ qs) (without-append p (distinct ps) (k ∷ []) ∙ ap (λ qs. without p (distinct ps) ++ qs) (dropped p k [] (same_path-turned p k ∙ f)) ∙ append-nil (without p (distinct ps)))
        ∙ whole true (ap (λ c. c || is_among k (without p (distinct ps))) f)
    by false f true g rest = behind true g rest ∙ whole true (ap (λ c. c || is_among k (without p (distinct ps))) f ∙ is_among-without p k (distinct ps) f ∙ g)
    by false f false g rest =
        behind false g rest
        ∙ ap (λ qs. p ∷ qs) (without-append p (distinct ps) (k ∷ []) ∙ ap (λ qs. without p (distinct ps) ++ qs) (kept p k [] (same_path-turned p k ∙ f)))
        ∙ whole false (ap (λ c. c || is_among k (without p (distinct ps))) f ∙ is_among-without p k (distinct ps) f ∙ g)

-- a table of distinct paths, once the next of the list is put in
pub fresh-more : (ps : List (List ℕ)) (k : List ℕ) → insert_entry same_bytes (fresh (distinct ps)) k false ≡ fresh (distinct (ps ++ k ∷ []))
fresh-more ps k = ap (λ t. insert_entry t (fresh (distinct ps)) k false) tests ∙ insert-fresh (distinct ps) k ∙ ap fresh (sym (distinct-more ps k))

pub paths_of-more : (ms : List Marked) (m : Marked) → paths_of (ms ++ m ∷ []) ≡ paths_of ms ++ m.path ∷ []
paths_of-more [] m = refl
paths_of-more (n ∷ ms) m = ap (λ ps. n.path ∷ ps) (paths_of-more ms m)

-- ---- more of them

pub distinct-itself : (ps : List (List ℕ)) → AreDistinct ps → distinct ps ≡ ps
unfolding IsDistinct
distinct-itself [] h = refl
distinct-itself (p ∷ ps) h = ap (λ qs. p ∷ without p qs) (distinct-itself ps h.1) ∙ ap (λ qs. p ∷ qs) (without-absent p ps h.0)

-- distinct paths are first once others are put after them
pub begins : (ps qs : List (List ℕ)) → AreDistinct ps → (rest : List (List ℕ)) × (distinct (ps ++ qs) ≡ ps ++ rest)
unfolding IsDistinct
begins [] qs h = (distinct qs, refl)
begins (p ∷ ps) qs h = by (begins ps qs h.1)
  where
    by : (rest : List (List ℕ)) × (distinct (ps ++ qs) ≡ ps ++ rest) → (rest : List (List ℕ)) × (p ∷ without p (distinct (ps ++ qs)) ≡ p ∷ ps ++ rest)
    by got = (
      without p got.0,
      ap (λ rs. p ∷ without p rs) got.1
          ∙ ap (λ rs. p ∷ rs) (without-append p ps got.0 ∙ ap (λ rs. rs ++ without p got.0) (without-absent p ps h.0)),
    )

pub is_among-distinct : (k : List ℕ) (ps : List (List ℕ)) → is_among k (distinct ps) ≡ is_among k ps
is_among-distinct k [] = refl
is_among-distinct k (p ∷ ps) =
    ap (λ b. same_path k p || b) (among_without k p (distinct ps) ∙ ap (λ b. not (same_path k p) && b) (is_among-distinct k ps))
    ∙ once (same_path k p) (is_among k ps)
  where
    once : (a b : Bool) → (a || (not a && b)) ≡ (a || b)
    once true b = refl
    once false b = refl

-- a table of which none is answered, as it is before others are added
pub fresh-none : (es : Entries) → IsDistinct same_bytes (keys_of es) → es ≡ fresh (pending es) → es ≡ fresh (distinct (pending es ++ []))
fresh-none es h all = all ∙ ap fresh (sym (ap distinct (append-nil (pending es)) ∙ distinct-itself (pending es) (pending_distinct es h)))

-- and once those are taken off again
pub fresh-back : (es : Entries) (qs : List (List ℕ)) → IsDistinct same_bytes (keys_of es) → es ≡ fresh (pending es) → take (length es) (fresh (distinct (pending es ++ qs))) ≡ es
fresh-back es qs h all =
    let got = begins (pending es) qs (pending_distinct es h) in
    ap (λ ps. take (length es) (fresh ps)) got.1
    ∙ ap (take (length es)) (map-append (λ p. (p, false)) (pending es) got.0 ∙ ap (λ fs. fs ++ fresh got.0) (sym all))
    ∙ take-append_seam es (fresh got.0)

-- if marked paths are taken out, and there are none, no path of the table is answered
pub swept-fresh : (es : Entries) → filter (λ e. not e.1) es ≡ fresh (pending es)
swept-fresh [] = refl
swept-fresh (e ∷ es) = by e.1 (swept-fresh es)
  where
    by : (b : Bool) → filter (λ f. not f.1) es ≡ fresh (pending es)
        → cond (not b) ((e.0, b) ∷ filter (λ f. not f.1) es) (filter (λ f. not f.1) es) ≡ fresh (cond b (pending es) (e.0 ∷ pending es))
    by true rest = rest
    by false rest = ap (λ fs. (e.0, false) ∷ fs) rest

few : (es : Entries) → length (pending es) ≤ length es
few [] = omega arith
few (e ∷ es) = by e.1 (few es)
  where
    by : (b : Bool) → length (pending es) ≤ length es → length (cond b (pending es) (e.0 ∷ pending es)) ≤ suc (length es)
    by true rest = omega arith
    by false rest = omega arith

pub whole-fresh : (es : Entries) → length es ≤ length (pending es) → es ≡ fresh (pending es)
whole-fresh [] all = refl
whole-fresh (e ∷ es) all = by e.1 all (whole-fresh es)
  where
    by : (b : Bool) → suc (length es) ≤ length (cond b (pending es) (e.0 ∷ pending es)) → (length es ≤ length (pending es) → es ≡ fresh (pending es))
        → (e.0, b) ∷ es ≡ fresh (cond b (pending es) (e.0 ∷ pending es))
    by true all rest = absurd (let most = few es in omega (arith, most, all))
    by false all rest = ap (λ fs. (e.0, false) ∷ fs) (rest (omega (arith, all)))

keys-fresh : (ps : List (List ℕ)) → keys_of (fresh ps) ≡ ps
keys-fresh [] = refl
keys-fresh (p ∷ ps) = ap (λ qs. p ∷ qs) (keys-fresh ps)

-- a table of the paths that are awaited is one, and none of them is answered
pub fresh_counted : (left : ℕ) (es fs : Entries) → IsCounted left es → fs ≡ fresh (pending es) → IsCounted left fs
fresh_counted left es fs counted e = record {
  distinct =
      subst (λ ks. IsDistinct same_bytes ks) (sym (ap keys_of e ∙ keys-fresh (pending es)))
      (subst (λ t. IsDistinct t (pending es)) (sym tests) (pending_distinct es counted.distinct));
  count = counted.count ∙ ap length (sym (ap pending e ∙ pending-fresh (pending es)));
}

pub fresh_again : (es fs : Entries) → fs ≡ fresh (pending es) → fs ≡ fresh (pending fs)
fresh_again es fs e = e ∙ ap fresh (sym (ap pending e ∙ pending-fresh (pending es)))
