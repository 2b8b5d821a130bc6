-- No path is listed by two directories. So what all of them list, put in order, is the whole list.
use Rattle.std.proofs.Common.{◌≡◌, ℕ, suc, ◌+◌, ◌<◌, Bool, true, false, cond, not, ◌&&◌, ◌||◌, nat_lt, List, [], ◌∷◌, ◌++◌, map, length, Option, Some, None, is_some, refl, sym, ap, subst, ◌∙◌, arith}
use Rattle.std.proofs.Math.ListN.{get_or}
use Rattle.std.specs.Prelude.{filter}
use Rattle.std.specs.declared.cmp.Ordering.TheVariants.{Less, Equal, Greater}
use Rattle.std.specs.Ordering.{is_eq, is_lt, ordering_reverse}
use Rattle.std.specs.Cmp.Lexicographic.{nat_list_cmp_total}
use Rattle.std.specs.List.{AllByRecursion, IsDistinct, flat_map, list_any}
use Rattle.std.specs.List.Sorted.{IsPermutation, IsStrictlySortedBy}
use Rattle.std.specs.FinMap as fin
use Rattle.std.proofs.lemmas.Bool.{and_parts, or_left, or_right}
use Rattle.std.proofs.lemmas.List.Folds.{list_any-append}
use Rattle.std.proofs.lemmas.List.Kept.{IsStrictlySortedBy-filter}
use Rattle.std.proofs.lemmas.List.Sorted.{list_any-IsPermutation}
use Rattle.std.proofs.lemmas.Map.Keys.{IsDistinct-IsPermutation, IsDistinct-from_sorted}
use Rattle.std.proofs.lemmas.Map.Made.{IsDistinct-keys_filter}
use Rattle.eden_globs.specs.Filters.{Patterns, admits}
use Rattle.eden_ids.specs.Paths.{lies_below}
use Rattle.eden_ids.specs.FileMaps.{FileMap, paths, same_path}
use Rattle.eden_ids.specs.Texts.{AreTexts}
use Rattle.eden_ids.proofs.ByteOrder.{fin_keys_rise, order}
use Rattle.eden_ids.proofs.FileMapLemmas.{same_path-is, same_path-refl, same_path-turned}
use Rattle.eden_ids.proofs.Members.{all_joined}
use Rattle.eden_ids.proofs.Sifted.{keys-sifted, sifted}
use Rattle.eden_ids.proofs.TreeMaps.{entries_found}
use Rattle.eden_ids.proofs.TreeQuestions.{any_witness}
use Rattle.eden_overlay.proofs.CarriedLemmas.{carried-below}
use Rattle.eden_objects.specs.Passing.{is_shown, told}
use Rattle.eden_renames.specs.Renames.{Entry, Renames, at_paths, is_governed, is_path, nearest, seen_through, source_dir}
use Rattle.eden_renames.specs.internal.Listed.{AreInOrder, is_listed, list_own, shown_by}
use Rattle.eden_renames.specs.internal.Regions.{is_apart, is_past}
use Rattle.eden_renames.proofs.InOrder.{shown_rises, told_by_members}
use Rattle.eden_renames.proofs.Listed.{all_but, all_known, below_known, shown_in}
use Rattle.eden_renames.proofs.Nearest.{nearest-is, no, one_nearest}
use Rattle.eden_renames.proofs.Regions.{governed_near, longer, negated, neither, none_nearer}

unless : (b : Bool) → (b ≡ true → ⊥) → b ≡ false
unless true bad = absurd (bad refl)
unless false bad = refl

-- ---- lists that have no path twice

none_listed : (p : List ℕ) (ps : List (List ℕ)) → is_listed ps p ≡ false → AllByRecursion (λ q. same_path p q ≡ false) ps
none_listed p [] none = tt
none_listed p (q ∷ ps) none = let parts = neither (same_path p q) (is_listed ps p) none in (parts.0, none_listed p ps parts.1)

joined_distinct : (ps qs : List (List ℕ)) → IsDistinct same_path ps → IsDistinct same_path qs → ((p : List ℕ) → is_listed ps p ≡ true → is_listed qs p ≡ false)
    → IsDistinct same_path (ps ++ qs)
unfolding IsDistinct
joined_distinct [] qs one other apart = other
joined_distinct (p ∷ ps) qs one other apart = (
  all_joined (λ q. same_path p q ≡ false) ps qs one.0 (none_listed p qs (apart p (or_left (same_path p p) (is_listed ps p) (same_path-refl p)))),
  joined_distinct ps qs one.1 other (λ q listed. apart q (or_right (same_path q p) (is_listed ps q) listed)),
)

-- ---- put in order they rise

strictly : (p q : List ℕ) → is_lt (order q p) ≡ false → same_path p q ≡ false → order p q ≡ Less
strictly p q high apart =
    elim (order p q) as (λ o. order p q ≡ o → o ≡ Less) [
      | Less ↦ λ is. refl
      | Equal ↦ λ is. no (sym (ap is_eq is) ∙ apart)
      | Greater ↦ λ is. no (sym (ap is_lt (nat_list_cmp_total.antisymm q p ∙ ap ordering_reverse is)) ∙ high)
    ] refl

all_later : (p q : List ℕ) (ps : List (List ℕ)) → order p q ≡ Less → AllByRecursion (λ r. order q r ≡ Less) ps → AllByRecursion (λ r. order p r ≡ Less) ps
all_later p q [] before all = tt
all_later p q (r ∷ ps) before all = (nat_list_cmp_total.trans p q r before all.0, all_later p q ps before all.1)

paths_rise : (ps : List (List ℕ)) → AreInOrder ps → IsDistinct same_path ps → IsStrictlySortedBy order ps
unfolding IsDistinct IsStrictlySortedBy
paths_rise [] up apart = tt
paths_rise (p ∷ []) up apart = (tt, tt)
paths_rise (p ∷ next ∷ ps) up apart =
    let rest = paths_rise (next ∷ ps) (λ k d low within. let place : suc k + 1 ≡ suc (k + 1) = omega arith in
    subst (λ n. is_lt (order (get_or (p ∷ next ∷ ps) n d) (get_or (next ∷ ps) k d)) ≡ false) place (up (suc k) d (omega arith) (omega (arith, within)))) apart.1 in
    let before : order p next ≡ Less = strictly p next (up 0 p (omega arith) (omega arith)) apart.0.0 in
    ((before, all_later p next ps before rest.0), rest)

ordered_rise : (ps next : List (List ℕ)) → IsPermutation ps next → AreInOrder next → IsDistinct same_path ps → IsStrictlySortedBy order next
ordered_rise ps next same up apart = paths_rise next up (IsDistinct-IsPermutation same_path same_path-turned ps next same apart)

-- ---- what the directories list

module _ (files : FileMap) (renames : Renames) (patterns : Patterns) where
  abbrev shows : Entry → List (List ℕ)
  shows e = list_own files renames patterns e.0

  -- it lies below the directory, and no nearer one is above it
  shown_near : (p top : List ℕ) (o : Option (List ℕ)) → is_listed (shown_by files renames patterns (top, o)) p ≡ true → (lies_below p top ≡ true) × (is_past (length top) (nearest (fin.entries renames) p) ≡ false)
  shown_near p top None listed = no (sym listed)
  shown_near p top (Some source) listed =
      let found = any_witness (λ q. lies_below q source && not (is_apart renames (length top) (all_but patterns p) (told source top q))) (paths files)
      (sym (shown_in files renames patterns p (top, Some source)) ∙ listed) in
      let q : List ℕ = found.0 in
      let t : List ℕ = told source top q in
      let parts = and_parts (lies_below q source) (not (is_apart renames (length top) (all_but patterns p) t)) found.2 in
      let kept = neither (all_but patterns p t) (is_past (length top) (nearest (fin.entries renames) t)) (negated _ parts.1) in
      let same : t ≡ p = sym (same_path-is p t (and_parts (same_path p t) (is_path t && admits patterns t) (doubled (same_path p t && (is_path t && admits patterns t)) kept.0)).0) in (
        ap (λ r. lies_below r top) (sym same) ∙ carried-below source top q parts.0,
        ap (λ r. is_past (length top) (nearest (fin.entries renames) r)) (sym same) ∙ kept.1,
      )
    where
      doubled : (b : Bool) → not b ≡ false → b ≡ true
      doubled true none = refl
      doubled false none = no none

  -- so the directory is the nearest one above it
  abbrev Said : List Entry → Type 0
  Said es = AllByRecursion (λ e. fin.get renames e.0 ≡ Some e.1) es

  near_shown : (p : List ℕ) (e : Entry) → fin.get renames e.0 ≡ Some e.1 → is_listed (shows e) p ≡ true → nearest (fin.entries renames) p ≡ Some e
  near_shown p e said listed =
      let near = shown_near p e.0 (source_dir renames e.0) listed in
      one_nearest renames p (nearest (fin.entries renames) p) (Some e) (nearest-is renames p) (said, near.0, none_nearer renames p e.0 near.1)

  -- and where none of these is, none lists it
  not_shown : (p : List ℕ) (es : List Entry) → Said es → AllByRecursion (λ e. nearest (fin.entries renames) p ≡ Some e → ⊥) es → is_listed (flat_map shows es) p ≡ false
  not_shown p [] said others = refl
  not_shown p (e ∷ es) said others =
      let here : is_listed (shows e) p ≡ false = unless _ (λ listed. others.0 (near_shown p e said.0 listed)) in
      list_any-append (λ q. same_path p q) (shows e) (flat_map shows es) ∙ (λ i. here i || not_shown p es said.1 others.1 i)

  one_distinct : (top : List ℕ) → IsDistinct same_path (list_own files renames patterns top)
  one_distinct top = IsDistinct-from_sorted order (list_own files renames patterns top) (shown_rises files renames patterns (top, source_dir renames top))

  entry_of : (p : List ℕ) (e f : Entry) → nearest (fin.entries renames) p ≡ Some e → nearest (fin.entries renames) p ≡ Some f → e ≡ f
  entry_of p e f x y = let both : Some e ≡ Some f = sym x ∙ y in cc

  others : (p : List ℕ) (e : Entry) (es : List Entry) → nearest (fin.entries renames) p ≡ Some e → AllByRecursion (λ d. same_path e.0 d ≡ false) (map (λ f. f.0) es)
      → AllByRecursion (λ f. nearest (fin.entries renames) p ≡ Some f → ⊥) es
  others p e [] near apart = tt
  others p e (f ∷ es) near apart =
      ((λ other. no (sym (same_path-refl e.0) ∙ ap (λ (g : Entry). same_path e.0 g.0) (entry_of p e f near other) ∙ apart.0)), others p e es near apart.1)

  all_distinct : (es : List Entry) → Said es → IsDistinct same_path (map (λ e. e.0) es) → IsDistinct same_path (flat_map shows es)
  unfolding IsDistinct
  all_distinct [] said apart = tt
  all_distinct (e ∷ es) said apart =
      joined_distinct (shows e) (flat_map shows es) (one_distinct e.0) (all_distinct es said.1 apart.1)
      (λ p listed. not_shown p es said.1 (others p e es (near_shown p e said.0 listed) apart.0))

  keys_distinct : IsDistinct same_path (map (λ e. e.0) (fin.entries renames))
  keys_distinct = IsDistinct-from_sorted order (fin.keys renames) (fin_keys_rise renames)

  flat_listed : (es : List Entry) (p : List ℕ) → is_listed (flat_map shows es) p ≡ list_any (λ e. is_listed (shows e) p) es
  flat_listed [] p = refl
  flat_listed (e ∷ es) p = list_any-append (λ q. same_path p q) (shows e) (flat_map shows es) ∙ ap (λ b. is_listed (shows e) p || b) (flat_listed es p)

  both_listed : (ps : List (List ℕ)) (es : List Entry) (all next : List (List ℕ)) (p : List ℕ) → IsPermutation all next → all ≡ ps ++ flat_map shows es
      → is_listed next p ≡ (is_listed ps p || list_any (λ e. is_listed (shows e) p) es)
  both_listed ps es all next p same is =
      sym (list_any-IsPermutation (λ q. same_path p q) all next same) ∙ ap (λ qs. is_listed qs p) is
      ∙ list_any-append (λ q. same_path p q) ps (flat_map shows es)
      ∙ ap (λ b. is_listed ps p || b) (flat_listed es p)

  -- ---- below a directory

  abbrev further : List ℕ → List Entry → List Entry
  further top es = filter (λ (e : Entry). lies_below e.0 top) es

  said_further : (top : List ℕ) (es : List Entry) → Said es → Said (further top es)
  said_further top [] said = tt
  said_further top (e ∷ es) said = elim (lies_below e.0 top) as (λ b. Said (cond b (e ∷ further top es) (further top es))) [
    | true ↦ (said.0, said_further top es said.1)
    | false ↦ said_further top es said.1
  ]

  -- no further directory is the nearest one above what is seen by the directory itself
  none_further : (p top : List ℕ) (es : List Entry) → is_past (length top) (nearest (fin.entries renames) p) ≡ false
      → AllByRecursion (λ f. nearest (fin.entries renames) p ≡ Some f → ⊥) (further top es)
  none_further p top [] near = tt
  none_further p top (e ∷ es) near = by (lies_below e.0 top) refl (none_further p top es near)
    where
      by : (b : Bool) → lies_below e.0 top ≡ b → AllByRecursion (λ f. nearest (fin.entries renames) p ≡ Some f → ⊥) (further top es)
          → AllByRecursion (λ f. nearest (fin.entries renames) p ≡ Some f → ⊥) (cond b (e ∷ further top es) (further top es))
      by false out rest = rest
      by true below rest = (
        (λ is. let more : length top < length e.0 = longer e.0 top below in
            let past : nat_lt (length top) (length e.0) ≡ false = sym (ap (is_past (length top)) is) ∙ near in
            absurd (grind (arith, more, past))),
        rest,
      )

  put_below : (top : List ℕ) (all next : List (List ℕ)) → AreTexts files → IsPermutation all next → AreInOrder next
      → all ≡ list_own files renames patterns top ++ flat_map shows (further top (fin.entries renames))
      → next ≡ filter (admits patterns) (filter (λ p. lies_below p top) (paths (at_paths (seen_through files renames))))
  put_below top all next are same up is =
      let seen = at_paths (seen_through files renames) in
      let es : List Entry = further top (fin.entries renames) in
      let own : List (List ℕ) = list_own files renames patterns top in
      let apart : IsDistinct same_path (own ++ flat_map shows es) =
      joined_distinct own (flat_map shows es) (one_distinct top)
      (all_distinct es (said_further top (fin.entries renames) (entries_found renames)) (IsDistinct-keys_filter same_path (λ e. lies_below e.0 top) (fin.entries renames) keys_distinct))
      (λ p listed. not_shown p es (said_further top (fin.entries renames) (entries_found renames)) (none_further p top (fin.entries renames) (shown_near p top (source_dir renames top) listed).1)) in
      told_by_members next (sifted seen (λ p. lies_below p top)) (admits patterns)
      (ordered_rise all next same up (subst (IsDistinct same_path) (sym is) apart))
      (λ p. both_listed own es all next p same is ∙ below_known files renames patterns top p are)
      ∙ ap (filter (admits patterns)) (keys-sifted seen (λ p. lies_below p top))

  pub below_ordered : (top : List ℕ) (all next : List (List ℕ)) (first : List (List ℕ)) (es : List Entry) → AreTexts files → IsPermutation all next → AreInOrder next
      → first ≡ list_own files renames patterns top → es ≡ filter (λ (e : Entry). lies_below e.0 top) (fin.entries renames) → all ≡ first ++ flat_map shows es
      → next ≡ filter (admits patterns) (filter (λ p. lies_below p top) (paths (at_paths (seen_through files renames))))
  below_ordered top all next first es are same up own more is =
      put_below top all next are same up (is ∙ (λ i. own i ++ flat_map shows (more i)))

  -- ---- at all places

  abbrev unmoved : List (List ℕ)
  unmoved = filter (is_shown (is_governed renames) patterns) (paths files)

  not_governed : (p : List ℕ) (ps : List (List ℕ)) → is_listed (filter (is_shown (is_governed renames) patterns) ps) p ≡ true → is_governed renames p ≡ false
  not_governed p [] listed = no (sym listed)
  not_governed p (q ∷ ps) listed = by (is_shown (is_governed renames) patterns q) refl listed (not_governed p ps)
    where
      here : (b : Bool) → same_path p q ≡ b → is_shown (is_governed renames) patterns q ≡ true → (b || is_listed (filter (is_shown (is_governed renames) patterns) ps) p) ≡ true
          → (is_listed (filter (is_shown (is_governed renames) patterns) ps) p ≡ true → is_governed renames p ≡ false) → is_governed renames p ≡ false
      here true same shown listed rest = ap (is_governed renames) (same_path-is p q same) ∙ negated _ (and_parts (not (is_governed renames q)) (admits patterns q) shown).0
      here false same shown listed rest = rest listed

      by : (b : Bool) → is_shown (is_governed renames) patterns q ≡ b → is_listed (cond b (q ∷ filter (is_shown (is_governed renames) patterns) ps) (filter (is_shown (is_governed renames) patterns) ps)) p ≡ true
          → (is_listed (filter (is_shown (is_governed renames) patterns) ps) p ≡ true → is_governed renames p ≡ false) → is_governed renames p ≡ false
      by true shown listed rest = here (same_path p q) refl shown listed rest
      by false shown listed rest = rest listed

  none_governs : (p : List ℕ) (es : List Entry) → is_governed renames p ≡ false → AllByRecursion (λ f. nearest (fin.entries renames) p ≡ Some f → ⊥) es
  none_governs p [] free = tt
  none_governs p (e ∷ es) free = ((λ is. no (sym (governed_near renames p ∙ ap is_some is) ∙ free)), none_governs p es free)

  put_all : (all next : List (List ℕ)) → AreTexts files → IsPermutation all next → AreInOrder next → all ≡ unmoved ++ flat_map shows (fin.entries renames)
      → next ≡ filter (admits patterns) (paths (at_paths (seen_through files renames)))
  put_all all next are same up is =
      let es : List Entry = fin.entries renames in
      let own : IsDistinct same_path unmoved =
      IsDistinct-from_sorted order unmoved (IsStrictlySortedBy-filter order (is_shown (is_governed renames) patterns) (paths files) (fin_keys_rise files)) in
      let apart : IsDistinct same_path (unmoved ++ flat_map shows es) =
      joined_distinct unmoved (flat_map shows es) own (all_distinct es (entries_found renames) keys_distinct)
      (λ p listed. not_shown p es (entries_found renames) (none_governs p es (not_governed p (paths files) listed))) in
      told_by_members next (at_paths (seen_through files renames)) (admits patterns)
      (ordered_rise all next same up (subst (IsDistinct same_path) (sym is) apart))
      (λ p. both_listed unmoved es all next p same is ∙ all_known files renames patterns p are)

  pub all_ordered : (all next : List (List ℕ)) (first : List (List ℕ)) (es : List Entry) → AreTexts files → IsPermutation all next → AreInOrder next
      → first ≡ filter (is_shown (is_governed renames) patterns) (paths files) → es ≡ fin.entries renames → all ≡ first ++ flat_map shows es
      → next ≡ filter (admits patterns) (paths (at_paths (seen_through files renames)))
  all_ordered all next first es are same up own more is =
      put_all all next are same up (is ∙ (λ i. own i ++ flat_map shows (more i)))
