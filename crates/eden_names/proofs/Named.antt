-- Paths that are named are those that a world's events since a number name.
use Rattle.std.proofs.Common.{◌≡◌, ℕ, Bool, true, false, cond, ◌||◌, ◌&&◌, List, [], ◌∷◌, ◌++◌, map, Some, None, is_some, refl, sym, ap, ◌∙◌}
use Rattle.std.specs.Prelude.{if◌then◌else◌}
use Rattle.std.specs.List.{flat_map, list_any}
use Rattle.std.proofs.lemmas.Bool.{or_from, or_left, or_right}
use Rattle.std.proofs.lemmas.List.Folds.{list_any-append}
use Rattle.std.specs.FinMap as fin
use Rattle.eden_ids.specs.Paths.{lies_below}
use Rattle.eden_ids.specs.FileMaps.{FileMap, PathSet, file_at, has, has_file_above, listing, no_files, path_set, paths, same_path, union}
use Rattle.eden_ids.proofs.FileMapLemmas.{file_at-insert, file_at-none, has-append, has-path_set, has-union, has-where, held, not_above, same_path-is, same_path-refl, same_path_set}
use Rattle.eden_ids.proofs.TreeQuestions.{any_none, any_some, any_witness}
use Rattle.eden_ids.specs.declared.content.Content.{Content}
use Rattle.std.proofs.lemmas.Map.Views.{any-filter_same}
use Rattle.eden_objects.specs.Objects.{Held}
use Rattle.eden_objects.specs.Commits.{commit_map}
use Rattle.eden_journal.specs.Histories.{Log, StandsFor}
use Rattle.eden_history.specs.declared.mark.Mark.{Mark}
use Rattle.eden_history.specs.declared.mark.Marked.{Marked}
use Rattle.eden_history.specs.declared.position.Position.{Position}
use Rattle.eden_history.specs.Worlds.{WorldState, now}
use Rattle.eden_history.specs.Legal.{IsLegal}
use Rattle.eden_history.specs.Rows.{row_since}
use Rattle.eden_history.specs.Back.{Places, places}
use Rattle.eden_history.specs.Changes.{below, below_any, prefixes_since, said_since}
use Rattle.eden_globs.specs.Filters.{Patterns, admits}
use Rattle.eden_history.specs.Marks.{admitted, mark_by, mark_said, mark_told}
use Rattle.eden_history.specs.Names.{moved_since, name_mark, named_each, names_since}
use Rattle.eden_history.specs.Said.{Said, by_root, by_touch, ends_at, joined, paths_said}
use Rattle.eden_history.proofs.Ends.{ends_at-append, ends_at-roots, joined-none}
use Rattle.eden_history.proofs.Saying.{named-both, rooted-names}
use Rattle.eden_ranges.specs.declared.ranges.Range.{Range}
use Rattle.eden_ranges.specs.Expanded.{differing, said_by_range}
use Rattle.eden_ranges.specs.Histories.{history_of}
use Rattle.eden_ranges.specs.Since.{log_status, range_of}
use Rattle.eden_ranges.proofs.Bridge.{SaysSame, ranges_are_since, says_same}
use Rattle.eden_names.specs.Naming.{found_below, named_by, remarked, with_roots}

-- ---- a tree of paths

-- one more path in the tree
pub above_insert : (m : FileMap) (k : List ℕ) (file : Content) (path : List ℕ) → has_file_above (fin.insert m k file) path ≡ (lies_below path k || has_file_above m path)
above_insert m k file path = by (lies_below path k) refl (has_file_above m path) refl
  where
    new : FileMap
    new = fin.insert m k file

    here : is_some (file_at new k) ≡ true
    here = ap is_some (file_at-insert m k file k ∙ ap (λ b. cond b (Some file) (file_at m k)) (same_path-refl k))

    stays : (b : Bool) (top : List ℕ) → same_path top k ≡ b → is_some (file_at m top) ≡ true → is_some (cond b (Some file) (file_at m top)) ≡ true
    stays true top e there = refl
    stays false top e there = there

    by : (a : Bool) → lies_below path k ≡ a → (b : Bool) → has_file_above m path ≡ b → has_file_above new path ≡ (a || b)
    by true below b e = any_some (λ top. lies_below path top) (paths new) k (held new k here) below
    by false apart true e =
        let top = any_witness (λ top. lies_below path top) (paths m) e in
        any_some (λ top. lies_below path top) (paths new) top.0
        (held new top.0 (ap is_some (file_at-insert m k file top.0) ∙ stays (same_path top.0 k) top.0 refl (fin.contains_key-keys m top.0 ∙ top.1))) top.2
    by false apart false e = any_none (λ top. lies_below path top) (paths new) (λ top listed.
        none top (same_path top k) refl (sym (ap is_some (file_at-insert m k file top)) ∙ fin.contains_key-keys new top ∙ listed))
      where
        none : (top : List ℕ) (b : Bool) → same_path top k ≡ b → is_some (cond b (Some file) (file_at m top)) ≡ true → lies_below path top ≡ false
        none top true is there = ap (lies_below path) (same_path-is top k is) ∙ apart
        none top false is there = not_above m path top e there

pub next_above : (old new : FileMap) (k : List ℕ) (file : Content) (path : List ℕ) (rest all : Bool) → new ≡ fin.insert old k file
    → (has_file_above old path || (lies_below path k || rest)) ≡ all → (has_file_above new path || rest) ≡ all
next_above old new k file path rest all is so_far =
    ap (λ m. has_file_above m path || rest) is ∙ ap (λ b. b || rest) (above_insert old k file path) ∙ turned (lies_below path k) (has_file_above old path) ∙ so_far
  where
    turned : (a b : Bool) → ((a || b) || rest) ≡ (b || (a || rest))
    turned true true = refl
    turned true false = refl
    turned false true = refl
    turned false false = refl

-- ---- the paths below directories

-- a path is found if it is below a directory, and a file is there
found-has : (prefixes : List (List ℕ)) (m : FileMap) (p : List ℕ) → has (path_set (found_below prefixes m)) p ≡ (below_any prefixes p && places m p)
found-has prefixes m p = has-path_set (found_below prefixes m) p ∙ by prefixes
  where
    either : (a b x : Bool) → ((a && x) || (b && x)) ≡ ((a || b) && x)
    either true true true = refl
    either true true false = refl
    either true false true = refl
    either true false false = refl
    either false b x = refl

    by : (ks : List (List ℕ)) → list_any (λ q. same_path p q) (found_below ks m) ≡ (below_any ks p && places m p)
    by [] = refl
    by (k ∷ ks) =
        list_any-append (λ q. same_path p q) (below k (paths m)) (found_below ks m)
        ∙ (λ i. (any-filter_same (λ q. same_path p q) (λ q. lies_below q k) (lies_below p k) (λ q e. ap (λ r. lies_below r k) (sym (same_path-is p q e))) (paths m)
        ∙ ap (λ b. lies_below p k && b) (sym (fin.contains_key-keys m p))) i || by ks i)
        ∙ either (lies_below p k) (below_any ks p) (places m p)

-- ---- a range that names more paths

abbrev rooted : List Held → Range → List (List ℕ)
rooted held range = listing (differing (commit_map held) range.roots)

more-ends : (held : List Held) (range : Range) (more : List (List ℕ)) (p : List ℕ)
    → ends_at p (said_by_range held (with_roots range more)) ≡ ends_at p (said_by_range held range)
more-ends held range more p = alone ((range.unclean ++ more) ++ rooted held range) ∙ sym (alone (range.unclean ++ rooted held range))
  where
    alone : (ps : List (List ℕ)) → ends_at p (map by_touch range.changes ++ map by_root ps) ≡ ends_at p (map by_touch range.changes)
    alone ps =
        ends_at-append p (map by_touch range.changes) (map by_root ps)
        ∙ ap (joined (ends_at p (map by_touch range.changes))) (ends_at-roots p ps)
        ∙ joined-none (ends_at p (map by_touch range.changes))

more-paths : (held : List Held) (range : Range) (more : List (List ℕ)) (p : List ℕ)
    → has (path_set (paths_said (said_by_range held (with_roots range more)))) p
    ≡ (has (path_set (paths_said (said_by_range held range))) p || has (path_set more) p)
more-paths held range more p =
    parted ((range.unclean ++ more) ++ rooted held range)
    ∙ ap (λ b. changed || b) (has-append (range.unclean ++ more) (rooted held range) p ∙ ap (λ b. b || differ) (has-append range.unclean more p))
    ∙ turned changed (has (path_set range.unclean) p) (has (path_set more) p) differ
    ∙ sym (ap (λ b. b || has (path_set more) p) (parted (range.unclean ++ rooted held range) ∙ ap (λ b. changed || b) (has-append range.unclean (rooted held range) p)))
  where
    changed : Bool
    changed = has (path_set (paths_said (map by_touch range.changes))) p

    differ : Bool
    differ = has (path_set (rooted held range)) p

    parted : (ps : List (List ℕ)) → has (path_set (paths_said (map by_touch range.changes ++ map by_root ps))) p ≡ (changed || has (path_set ps) p)
    parted ps = named-both (map by_touch range.changes) (map by_root ps) p ∙ ap (λ qs. changed || has (path_set qs) p) (rooted-names ps)

    turned : (c u e r : Bool) → (c || ((u || e) || r)) ≡ ((c || (u || r)) || e)
    turned true u e r = refl
    turned false true e r = refl
    turned false false true true = refl
    turned false false true false = refl
    turned false false false true = refl
    turned false false false false = refl

-- ---- of a world

abbrev said_at : List Said → List ℕ → Said
said_at said path = (path, ends_at path said)

abbrev mark_at : Mark → List ℕ → Marked
mark_at mark path = record { mark = mark; path = path }

abbrev named_at : WorldState → ℕ → List ℕ → Marked
named_at world since path = mark_at (name_mark world since path) path

three_maps : {X Y Z W : Type 0} (f : Z → W) (g : Y → Z) (h : X → Y) (k : X → W) → ((x : X) → f (g (h x)) ≡ k x) → (xs : List X) → map f (map g (map h xs)) ≡ map k xs
three_maps f g h k same [] = refl
three_maps f g h k same (x ∷ xs) = λ i. same x i ∷ three_maps f g h k same xs i

listed : (m : FileMap) (p : List ℕ) → has (path_set (paths m)) p ≡ places m p
listed m p = has-path_set (paths m) p ∙ sym (fin.contains_key-keys m p)

-- the range of a world, with the files before it and those now, names each path that changed
pub named_is : (world : WorldState) → IsLegal world → (log : Log) → StandsFor log (history_of world) → (position : Position) → log_status log position ≡ None
    → (before : FileMap) → ((p : List ℕ) → places before p ≡ places (row_since world position.sequence).files p)
    → named_by world.held (range_of log position.sequence) before (now world).files ≡ named_each world position.sequence
named_is world legal log s position none before were =
    three_maps (remarked range.prefixes (places before) (places files)) mark_said (said_at said) (named_at world since)
    marked (listing (path_set (paths_said said)))
    ∙ ap (λ (set : PathSet). map (named_at world since) (listing set)) names
  where
    since : ℕ
    since = position.sequence

    range : Range
    range = range_of log since

    files : FileMap
    files = (now world).files

    more : List (List ℕ)
    more = found_below range.prefixes files ++ found_below range.prefixes before

    said : List Said
    said = said_by_range world.held (with_roots range more)

    prefixes : range.prefixes ≡ prefixes_since world since
    prefixes = ap (λ (r : Range). r.prefixes) (ranges_are_since world legal log s position none)

    same : SaysSame (said_by_range world.held range) (said_since world since)
    same = says_same world legal log s position none

    marked : (p : List ℕ) → remarked range.prefixes (places before) (places files) (mark_said (said_at said p)) ≡ named_at world since p
    marked p =
        (λ i. if below_any (prefixes i) p then mark_at (mark_by (were p i) (places files p)) p else mark_at (mark_told ((more-ends world.held range more p ∙ same.ends p) i)) p)
        ∙ by (below_any (prefixes_since world since) p)
      where
        by : (b : Bool)
            → (if b then mark_at (mark_by (places (row_since world since).files p) (places files p)) p else mark_at (mark_told (ends_at p (said_since world since))) p)
            ≡ mark_at (if b then mark_by (places (row_since world since).files p) (places files p) else mark_told (ends_at p (said_since world since))) p
        by true = refl
        by false = refl

    around : (b w n : Bool) → ((b && n) || (b && w)) ≡ (b && (w || n))
    around true true true = refl
    around true true false = refl
    around true false true = refl
    around true false false = refl
    around false w n = refl

    found : (p : List ℕ) → has (path_set more) p ≡ has (moved_since world since) p
    found p =
        has-append (found_below range.prefixes files) (found_below range.prefixes before) p
        ∙ (λ i. found-has range.prefixes files p i || found-has range.prefixes before p i)
        ∙ (λ i. (below_any (prefixes i) p && places files p) || (below_any (prefixes i) p && were p i))
        ∙ around (below_any (prefixes_since world since) p) (places (row_since world since).files p) (places files p)
        ∙ sym (has-where (path_set (paths (row_since world since).files ++ paths files)) (below_any (prefixes_since world since)) p
        ∙ ap (λ b. below_any (prefixes_since world since) p && b)
        (has-append (paths (row_since world since).files) (paths files) p ∙ (λ i. listed (row_since world since).files p i || listed files p i)))

    names : path_set (paths_said said) ≡ names_since world since
    names = same_path_set _ _ (λ p.
        more-paths world.held range more p
        ∙ (λ i. has (same.paths i) p || found p i)
        ∙ sym (has-union (path_set (paths_said (said_since world since))) (moved_since world since) p))

-- no path is in a tree of none
pub none_above_none : (path : List ℕ) → has_file_above no_files path ≡ false
none_above_none path = any_none (λ top. lies_below path top) (paths no_files) (λ top listed.
    let there : is_some (file_at no_files top) ≡ true = fin.contains_key-keys no_files top ∙ listed in
    let bad : true ≡ false = sym there ∙ ap is_some (file_at-none top) in absurd (cc))

-- ---- marks that are given, and a filter

remarked_path : (prefixes : List (List ℕ)) (before after : Places) (one : Marked) → (remarked prefixes before after one).path ≡ one.path
remarked_path prefixes before after one = by (below_any prefixes one.path)
  where
    by : (b : Bool) → (if b then mark_at (mark_by (before one.path) (after one.path)) one.path else one).path ≡ one.path
    by true = refl
    by false = refl

pub remarked_admitted : (prefixes : List (List ℕ)) (before after : Places) (wanted : Patterns) (ms : List Marked)
    → map (remarked prefixes before after) (admitted wanted ms) ≡ admitted wanted (map (remarked prefixes before after) ms)
remarked_admitted prefixes before after wanted [] = refl
remarked_admitted prefixes before after wanted (m ∷ ms) = by (admits wanted m.path) refl (remarked_admitted prefixes before after wanted ms)
  where
    next : Marked
    next = remarked prefixes before after m

    by : (a : Bool) → admits wanted m.path ≡ a
        → map (remarked prefixes before after) (admitted wanted ms) ≡ admitted wanted (map (remarked prefixes before after) ms)
        → map (remarked prefixes before after) (cond a (m ∷ admitted wanted ms) (admitted wanted ms))
        ≡ cond (admits wanted next.path) (next ∷ admitted wanted (map (remarked prefixes before after) ms)) (admitted wanted (map (remarked prefixes before after) ms))
    by true e rest =
        ap (λ more. next ∷ more) rest
        ∙ sym (ap (λ b. cond b (next ∷ admitted wanted (map (remarked prefixes before after) ms)) (admitted wanted (map (remarked prefixes before after) ms)))
        (ap (admits wanted) (remarked_path prefixes before after m) ∙ e))
    by false e rest =
        rest
        ∙ sym (ap (λ b. cond b (next ∷ admitted wanted (map (remarked prefixes before after) ms)) (admitted wanted (map (remarked prefixes before after) ms)))
        (ap (admits wanted) (remarked_path prefixes before after m) ∙ e))
