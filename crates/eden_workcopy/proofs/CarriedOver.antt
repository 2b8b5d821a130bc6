-- Files that are carried from below one path to below another, one after the other, where an overlay lies over a file map.
use Rattle.std.proofs.Common.{◌≡◌, ◌≢◌, ℕ, Less, ◌⊎◌, inl, inr, Bool, true, false, cond, ◌&&◌, ◌||◌, List, [], ◌∷◌, Option, Some, None, is_some, refl, sym, ap, subst, ◌∙◌}
use Rattle.std.specs.Prelude.{if◌then◌else◌}
use Rattle.std.specs.List.{list_any, AllByRecursion}
use Rattle.std.specs.List.Sorted.{IsStrictlySortedBy}
use Rattle.std.specs.Option.{option_or}
use Rattle.std.specs.Ordering.{is_eq, nat_cmp}
use Rattle.std.specs.Cmp.Lexicographic.{slice_cmp, nat_list_cmp_total}
use Rattle.std.specs.FinMap as fin
use Rattle.eden_ids.specs.declared.content.Content.{Content}
use Rattle.eden_ids.specs.Paths.{lies_below}
use Rattle.eden_ids.specs.FileMaps.{FileMap, file_at, has_file_below, paths, put_option, same_path}
use Rattle.eden_ids.specs.Sameness.{same_bytes}
use Rattle.eden_ids.proofs.ByteOrder.{fin_keys_rise}
use Rattle.eden_ids.proofs.FileMapLemmas.{bytes_itself, not_below, put_option-at, file_at-remove, same_file_map, same_path-is, same_path-other, same_path-refl}
use Rattle.eden_ids.proofs.Sifted.{has-sifted, keys-sifted, sifted}
use Rattle.eden_ids.proofs.TreeQuestions.{any_witness}
use Rattle.eden_history.specs.declared.change.ChangeFault.{ChangeFault}
use Rattle.eden_history.specs.declared.change.ChangeFault.TheVariants.{NotADirectory, IsADirectory, NoEntry, IntoItself, PathTooLong}
use Rattle.eden_overlay.specs.Carried.{breaks, carried, carried_files}
use Rattle.eden_history.specs.Changes.{below}
use Rattle.eden_history.specs.DirRenames.{breaks_a_path, dir_renamed, free_fault, has_file_upward, rename_dir_fault, source_fault}
use Rattle.eden_overlay.proofs.CarriedLemmas.{below-trans, carried-back, carried-below, file_at-carried, nested}
use Rattle.eden_overlay.specs.Layers.{Layer, over}
use Rattle.eden_workcopy.specs.internal.Carrying.{each_carried, one_carried, way_fault}
use Rattle.eden_workcopy.proofs.Reverted.{over-forgotten}
use Rattle.eden_overlay.proofs.Touched.{set_over}
use Rattle.eden_overlay.proofs.Overs.{file_below}

-- ---- one file is taken away

-- where no file is seen there is no file to be taken away
pub none_taken : (base : FileMap) (layer : Layer) (path : List ℕ) → fin.get layer path ≡ None → file_at base path ≡ None → over base layer ≡ fin.remove (over base layer) path
none_taken base layer path untold none =
    same_file_map _ _ (λ q. by q (same_path q path) refl ∙ sym (file_at-remove (over base layer) path q))
  where
    by : (q : List ℕ) (b : Bool) → same_path q path ≡ b → file_at (over base layer) q ≡ cond (same_path q path) None (file_at (over base layer) q)
    by q true e =
        ap (file_at (over base layer)) (same_path-is q path e) ∙ file_below base layer path untold ∙ none
        ∙ sym (ap (λ b. cond b None (file_at (over base layer) q)) e)
    by q false e = sym (ap (λ b. cond b None (file_at (over base layer) q)) e)

-- what was said of a path makes no difference once its file is taken away
pub taken_untold : (base : FileMap) (layer left : Layer) (path : List ℕ) → left ≡ fin.remove layer path → fin.remove (over base left) path ≡ fin.remove (over base layer) path
taken_untold base layer left path is =
    ap (λ m. fin.remove m path) (over-forgotten base layer left path is)
    ∙ same_file_map _ _ (λ q.
    file_at-remove (put_option (over base layer) path (file_at base path)) path q
    ∙ ap (cond (same_path q path) None) (put_option-at (over base layer) path (file_at base path) q)
    ∙ by (same_path q path) (file_at (over base layer) q)
    ∙ sym (file_at-remove (over base layer) path q))
  where
    by : (b : Bool) (o : Option Content) → cond b None (cond b (file_at base path) o) ≡ cond b None o
    by true o = refl
    by false o = refl

-- nothing is said of it then
pub untold : (layer left : Layer) (path : List ℕ) → left ≡ fin.remove layer path → fin.get left path ≡ None
untold layer left path is =
    ap (λ l. fin.get l path) is
    ∙ fin.get-remove nat_list_cmp_total layer path path
    ∙ ap (λ b. cond b None (fin.get layer path)) (same_path-refl path)

pub not_there : (base : FileMap) (path : List ℕ) → is_some (file_at base path) ≡ false → file_at base path ≡ None
not_there base path e = by (file_at base path) e
  where
    by : (o : Option Content) → is_some o ≡ false → o ≡ None
    by None e = refl
    by (Some file) e = let bad : true ≡ false = e in cc

-- ---- a list of paths, taken one after the other

-- some were carried, and these are left
pub record Carrying (base : FileMap) (old new : List ℕ) (first : Layer) (all : List (List ℕ)) (next : Layer) (left : List (List ℕ)) : Type 0 where
  pub files : each_carried old new (over base next) left ≡ each_carried old new (over base first) all
  pub whole : list_any (breaks old new) left ≡ list_any (breaks old new) all
  pub below : AllByRecursion (λ p. lies_below p old ≡ true) left

pub carrying_next : {base : FileMap} {old new : List ℕ} {first next : Layer} {all left : List (List ℕ)} (taken after : Layer) (path place : List ℕ) (file : Option Content) (rest : List (List ℕ))
    → Carrying base old new first all next left → left ≡ path ∷ rest → breaks old new path ≡ false → place ≡ carried old new path
    → file ≡ file_at (over base next) path → over base taken ≡ fin.remove (over base next) path → after ≡ fin.insert taken place file
    → Carrying base old new first all after rest
carrying_next {base} {old} {new} {first} {next} {all} {left} taken after path place file rest h is whole place-is file-is taken-is after-is =
    record {
      files = ap (λ m. each_carried old new m rest)
          (set_over base taken after place file after-is ∙ (λ i. put_option (taken-is i) (place-is i) (file-is i)))
          ∙ sym (ap (each_carried old new (over base next)) is) ∙ h.files;
      whole = sym (ap (list_any (breaks old new)) is ∙ ap (λ b. b || list_any (breaks old new) rest) whole) ∙ h.whole;
      below = (subst (λ ps. AllByRecursion (λ p. lies_below p old ≡ true) ps) is h.below).1;
    }

-- ---- each after the other

abbrev listed : List ℕ → List (List ℕ) → Bool
listed p ps = list_any (λ q. same_path p q) ps

-- none twice
abbrev AreApart : List (List ℕ) → Type 0
AreApart [] = Unit {0}
AreApart (p ∷ ps) = (listed p ps ≡ false) × AreApart ps

abbrev AreBelow : List ℕ → List (List ℕ) → Type 0
AreBelow top ps = AllByRecursion (λ p. lies_below p top ≡ true) ps

-- nothing is below both
abbrev IsBeside : List ℕ → List ℕ → Type 0
IsBeside old new = (p : List ℕ) → lies_below p old ≡ true → lies_below p new ≡ false

one_at : (old new : List ℕ) (m : FileMap) (p q : List ℕ)
    → file_at (one_carried old new m p) q ≡ cond (same_path q (carried old new p)) (file_at m p) (cond (same_path q p) None (file_at m q))
one_at old new m p q =
    put_option-at (fin.remove m p) (carried old new p) (file_at m p) q
    ∙ ap (cond (same_path q (carried old new p)) (file_at m p)) (file_at-remove m p q)

away : (p q top : List ℕ) → lies_below p top ≡ true → lies_below q top ≡ false → same_path p q ≡ false
away p q top below other = same_path-other p q (λ is. let bad : true ≡ false = sym below ∙ ap (λ r. lies_below r top) is ∙ other in cc)

away_too : (p q top : List ℕ) → lies_below p top ≡ false → lies_below q top ≡ true → same_path p q ≡ false
away_too p q top other below = same_path-other p q (λ is. let bad : true ≡ false = sym below ∙ ap (λ r. lies_below r top) (sym is) ∙ other in cc)

-- what the files are after all of them, where the list has none twice
each_at : (old new : List ℕ) → IsBeside old new → (ps : List (List ℕ)) → AreBelow old ps → AreApart ps → (m : FileMap) (q : List ℕ)
    → file_at (each_carried old new m ps) q
    ≡ (if lies_below q new then (if listed (carried new old q) ps then file_at m (carried new old q) else file_at m q)
    else (if listed q ps then None else file_at m q))
each_at old new beside [] all apart m q = by (lies_below q new)
  where
    by : (b : Bool) → file_at m q ≡ (if b then file_at m q else file_at m q)
    by true = refl
    by false = refl
each_at old new beside (p ∷ ps) all apart m q =
    each_at old new beside ps all.1 apart.1 (one_carried old new m p) q
    ∙ by (lies_below q new) refl
  where
    place : List ℕ
    place = carried old new p

    next : FileMap
    next = one_carried old new m p

    inside : lies_below place new ≡ true
    inside = carried-below old new p all.0

    home : lies_below q new ≡ true → lies_below (carried new old q) old ≡ true
    home into = carried-below new old q into

    -- a place of origin keeps its file, unless it is the one that is taken
    origin : (r : List ℕ) → lies_below r old ≡ true → same_path r p ≡ false → file_at next r ≡ file_at m r
    origin r low other =
        one_at old new m p r
        ∙ (λ i. cond (away_too r place new (beside r low) inside i) (file_at m p) (cond (other i) None (file_at m r)))

    into_new : lies_below q new ≡ true → (same more : Bool) → same_path (carried new old q) p ≡ same → listed (carried new old q) ps ≡ more
        → (if more then file_at next (carried new old q) else file_at next q)
        ≡ (if same || more then file_at m (carried new old q) else file_at m q)
    into_new into true more s l =
        let is : carried new old q ≡ p = same_path-is (carried new old q) p s in
        let none : more ≡ false = sym l ∙ ap (λ r. listed r ps) is ∙ apart.0 in
        let here : q ≡ place = sym (carried-back new old q into) ∙ ap (carried old new) is in
        ap (λ b. if b then file_at next (carried new old q) else file_at next q) none
        ∙ one_at old new m p q
        ∙ ap (λ b. cond b (file_at m p) (cond (same_path q p) None (file_at m q))) (ap (same_path q) (sym here) ∙ same_path-refl q)
        ∙ ap (file_at m) (sym is)
    into_new into false true s l = origin (carried new old q) (home into) s
    into_new into false false s l =
        let other : same_path q place ≡ false = same_path-other q place (λ is.
        let back : carried new old q ≡ p = ap (carried new old) is ∙ carried-back old new p all.0 in
        let bad : true ≡ false = sym (same_path-refl p) ∙ ap (λ r. same_path r p) (sym back) ∙ s in cc) in
        one_at old new m p q
        ∙ (λ i. cond (other i) (file_at m p) (cond (away q p new into (beside p all.0) i) None (file_at m q)))

    out_of_old : lies_below q new ≡ false → (same more : Bool) → same_path q p ≡ same → listed q ps ≡ more
        → (if more then None else file_at next q) ≡ (if same || more then None else file_at m q)
    out_of_old beyond true true s l = refl
    out_of_old beyond true false s l =
        one_at old new m p q
        ∙ (λ i. cond (away_too q place new beyond inside i) (file_at m p) (cond (s i) None (file_at m q)))
    out_of_old beyond false true s l = refl
    out_of_old beyond false false s l =
        one_at old new m p q
        ∙ (λ i. cond (away_too q place new beyond inside i) (file_at m p) (cond (s i) None (file_at m q)))

    by : (into : Bool) → lies_below q new ≡ into
        → (if into then (if listed (carried new old q) ps then file_at next (carried new old q) else file_at next q)
        else (if listed q ps then None else file_at next q))
        ≡ (if into then (if listed (carried new old q) (p ∷ ps) then file_at m (carried new old q) else file_at m q)
        else (if listed q (p ∷ ps) then None else file_at m q))
    by true into = into_new into (same_path (carried new old q) p) (listed (carried new old q) ps) refl refl
    by false beyond = out_of_old beyond (same_path q p) (listed q ps) refl refl

-- ---- all that lie below the old path

after_all : (p : List ℕ) (ps : List (List ℕ)) → AllByRecursion (λ q. slice_cmp nat_cmp p q ≡ Less) ps → listed p ps ≡ false
after_all p [] all = refl
after_all p (q ∷ ps) all = ap (λ r. is_eq r || listed p ps) all.0 ∙ after_all p ps all.1

rising_apart : (ps : List (List ℕ)) → IsStrictlySortedBy (slice_cmp nat_cmp) ps → AreApart ps
unfolding IsStrictlySortedBy
rising_apart [] rise = tt
rising_apart (p ∷ ps) rise = (after_all p ps rise.0, rising_apart ps rise.1)

pub all_below : (top : List ℕ) (ps : List (List ℕ)) → AllByRecursion (λ p. lies_below p top ≡ true) (below top ps)
all_below top [] = tt
all_below top (p ∷ ps) = by (lies_below p top) refl (all_below top ps)
  where
    by : (b : Bool) → lies_below p top ≡ b → AllByRecursion (λ p. lies_below p top ≡ true) (below top ps)
        → AllByRecursion (λ p. lies_below p top ≡ true) (cond b (p ∷ below top ps) (below top ps))
    by true e rest = (e, rest)
    by false e rest = rest

below_apart : (m : FileMap) (old : List ℕ) → AreApart (below old (paths m))
below_apart m old = subst AreApart (keys-sifted m (λ p. lies_below p old)) (rising_apart _ (fin_keys_rise (sifted m (λ p. lies_below p old))))

listed_below : (m : FileMap) (old p : List ℕ) → listed p (below old (paths m)) ≡ (lies_below p old && is_some (file_at m p))
listed_below m old p =
    ap (listed p) (sym (keys-sifted m (λ p. lies_below p old)))
    ∙ sym (fin.contains_key-keys (sifted m (λ p. lies_below p old)) p)
    ∙ has-sifted m (λ p. lies_below p old) p

-- nothing is below both, where files are below the old path and none below the new one
beside : (m : FileMap) (old new : List ℕ) → has_file_below m old ≡ true → has_file_below m new ≡ false → lies_below new old ≡ false → old ≢ new → IsBeside old new
beside m old new some none outside other p low = by (lies_below p new) refl
  where
    under : lies_below old new ≡ true → true ≡ false
    under over =
        let found = any_witness (λ q. lies_below q old) (paths m) some in
        let there : is_some (file_at m found.0) ≡ true = fin.contains_key-keys m found.0 ∙ found.1 in
        sym (below-trans found.0 old new found.2 over) ∙ not_below m new found.0 none there

    both : (old ≡ new) ⊎ ((lies_below old new ≡ true) ⊎ (lies_below new old ≡ true)) → true ≡ false
    both (inl one) = absurd (other one)
    both (inr (inl over)) = under over
    both (inr (inr into)) = sym into ∙ outside

    by : (b : Bool) → lies_below p new ≡ b → b ≡ false
    by false e = refl
    by true e = both (nested p old new low e)

-- they are carried as the rename of the directory carries them
pub all_carried : (m : FileMap) (old new : List ℕ) → has_file_below m old ≡ true → has_file_below m new ≡ false → lies_below new old ≡ false → old ≢ new
    → each_carried old new m (below old (paths m)) ≡ carried_files m old new
all_carried m old new some none outside other =
    same_file_map _ _ (λ q.
    each_at old new (beside m old new some none outside other) (below old (paths m)) (all_below old (paths m)) (below_apart m old) m q
    ∙ (λ i. if lies_below q new then (if listed_below m old (carried new old q) i then file_at m (carried new old q) else file_at m q)
    else (if listed_below m old q i then None else file_at m q))
    ∙ by q (lies_below q new) refl
    ∙ sym (file_at-carried m old new q))
  where
    absent : (q : List ℕ) (o : Option Content) → file_at m q ≡ o → lies_below q new ≡ true → o ≡ None
    absent q None is into = refl
    absent q (Some file) is into = absurd (let bad : true ≡ false = sym into ∙ not_below m new q none (ap is_some is) in cc)

    from_old : (low : Bool) (o : Option Content) → (if low && is_some o then None else o) ≡ (if low then None else o)
    from_old true None = refl
    from_old true (Some file) = refl
    from_old false o = refl

    to_new : (q : List ℕ) → lies_below q new ≡ true → (low : Bool) → low ≡ true → (o : Option Content)
        → (if low && is_some o then o else file_at m q) ≡ o
    to_new q into true e None = absent q (file_at m q) refl into
    to_new q into true e (Some file) = refl
    to_new q into false e o = absurd (cc)

    by : (q : List ℕ) (into : Bool) → lies_below q new ≡ into
        → (if into then (if lies_below (carried new old q) old && is_some (file_at m (carried new old q)) then file_at m (carried new old q) else file_at m q)
        else (if lies_below q old && is_some (file_at m q) then None else file_at m q))
        ≡ (if into then file_at m (carried new old q) else if lies_below q old then None else file_at m q)
    by q true into = to_new q into (lies_below (carried new old q) old) (carried-below new old q into) (file_at m (carried new old q))
    by q false beyond = from_old (lies_below q old) (file_at m q)

-- ---- the judgement

pub broken_below : (old new : List ℕ) (ps : List (List ℕ)) → list_any (breaks old new) (below old ps) ≡ list_any (λ p. lies_below p old && breaks old new p) ps
broken_below old new [] = refl
broken_below old new (p ∷ ps) = step (lies_below p old) (broken_below old new ps)
  where
    step : (b : Bool) → list_any (breaks old new) (below old ps) ≡ list_any (λ p. lies_below p old && breaks old new p) ps
        → list_any (breaks old new) (cond b (p ∷ below old ps) (below old ps)) ≡ ((b && breaks old new p) || list_any (λ p. lies_below p old && breaks old new p) ps)
    step true more = ap (λ b. breaks old new p || b) more
    step false more = more

clear : (m : FileMap) (old new : List ℕ) → way_fault m old new ≡ None → (lies_below new old ≡ false) × (free_fault m new ≡ None)
clear m old new e = by (lies_below new old) refl e
  where
    by : (b : Bool) → lies_below new old ≡ b → (if b then Some IntoItself else free_fault m new) ≡ None → (lies_below new old ≡ false) × (free_fault m new ≡ None)
    by true is none = absurd (let bad : ◌≡◌ {A = Option ChangeFault} (Some IntoItself) None = none in cc)
    by false is none = (is, none)

-- once nothing else refuses it, a path that would be invalid does, or nothing
pub judged : (m : FileMap) (old new : List ℕ) (broken : Bool) → source_fault m old ≡ None → same_bytes old new ≡ false → way_fault m old new ≡ None
    → list_any (breaks old new) (below old (paths m)) ≡ broken → rename_dir_fault m old new ≡ (if broken then Some PathTooLong else None)
judged m old new broken source distinct way is =
    let free = clear m old new way in
    (λ i. option_or (source i) (if distinct i then None else (if free.0 i then Some IntoItself else option_or (free.1 i) (if breaks_a_path m old new then Some PathTooLong else None))))
    ∙ ap (λ b. if b then Some PathTooLong else None) (sym (broken_below old new (paths m)) ∙ is)

has_source : (m : FileMap) (old : List ℕ) → source_fault m old ≡ None → has_file_below m old ≡ true
has_source m old e = by (has_file_upward m old) (has_file_below m old) e
  where
    by : (upward here : Bool) → (if upward then Some NotADirectory else (if here then None else Some NoEntry)) ≡ None → here ≡ true
    by true here none = absurd (let bad : ◌≡◌ {A = Option ChangeFault} (Some NotADirectory) None = none in cc)
    by false true none = refl
    by false false none = absurd (let bad : ◌≡◌ {A = Option ChangeFault} (Some NoEntry) None = none in cc)

none_beneath : (m : FileMap) (new : List ℕ) → free_fault m new ≡ None → has_file_below m new ≡ false
none_beneath m new e = by (has_file_upward m new) (has_file_below m new) e
  where
    by : (upward here : Bool) → (if upward then Some NotADirectory else (if here then Some IsADirectory else None)) ≡ None → here ≡ false
    by true here none = absurd (let bad : ◌≡◌ {A = Option ChangeFault} (Some NotADirectory) None = none in cc)
    by false true none = absurd (let bad : ◌≡◌ {A = Option ChangeFault} (Some IsADirectory) None = none in cc)
    by false false none = refl

-- the files below the old path, carried, are the renamed directory
pub dir_carried : (m : FileMap) (old new : List ℕ) → source_fault m old ≡ None → same_bytes old new ≡ false → way_fault m old new ≡ None
    → each_carried old new m (below old (paths m)) ≡ dir_renamed m old new
dir_carried m old new source distinct way =
    let free = clear m old new way in
    all_carried m old new (has_source m old source) (none_beneath m new free.1) free.0
    (λ is. let bad : true ≡ false = sym (bytes_itself old) ∙ ap (same_bytes old) is ∙ distinct in cc)
    ∙ sym (ap (λ b. if b then m else carried_files m old new) distinct)
