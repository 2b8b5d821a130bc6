-- A path that no event names, and that lies below no directory that files were moved from or to, keeps what is there, from any row of a
-- generation to its last.
use Rattle.std.proofs.Common.{◌≡◌, ℕ, ◌≤◌, inl, inr, Bool, true, false, cond, ◌||◌, List, [], ◌∷◌, Option, Some, None, refl, sym, ap, subst, ◌∙◌, arith}
use Rattle.std.specs.Prelude.{if◌then◌else◌}
use Rattle.std.specs.List.{flat_map, list_any}
use Rattle.std.proofs.lemmas.Bool.{or_from, or_left, or_parts, or_right}
use Rattle.std.proofs.lemmas.List.Folds.{list_any-append}
use Rattle.std.specs.FinMap as fin
use Rattle.eden_ids.specs.declared.content.Content.{Content}
use Rattle.eden_ids.specs.Paths.{lies_below}
use Rattle.eden_ids.specs.FileMaps.{FileMap, differ, file_at, has, listing, path_set, same_path, union}
use Rattle.eden_ids.specs.Sameness.{same_bytes}
use Rattle.eden_ids.proofs.FileMapLemmas.{file_at-insert, file_at-remove, has-listing, has-path_set, has-union, path_set-listing, same_path-refl, unlisted}
use Rattle.eden_history.specs.declared.change.Change.{Change}
use Rattle.eden_history.specs.declared.change.Change.TheVariants.{Write, Remove, Rename, RenameDir, Checkout}
use Rattle.eden_history.specs.Worlds.{Row, Event, Commits, last_row}
use Rattle.eden_history.specs.Renames as renames
use Rattle.eden_history.specs.Checkouts.{unclean}
use Rattle.eden_history.specs.Named.{moved_prefixes, named}
use Rattle.eden_history.specs.Outcome.{next_files, next_row}
use Rattle.eden_history.specs.Legal.{AreMade}
use Rattle.eden_history.specs.Changes.{below_any, events_in, is_among, is_in_range, named_since, prefixes_told}
use Rattle.eden_history.specs.Rows.{IsRowOf}
use Rattle.eden_history.proofs.CheckoutLaws.{has-unclean, same_where}
use Rattle.eden_history.proofs.DirRenameLaws.{dir_renamed-elsewhere}
use Rattle.eden_history.proofs.Following.{Follows, IsNotAfter, counted, earlier, event_follows, skipped}
use Rattle.eden_history.proofs.Saying.{named-counted}
use Rattle.eden_history.proofs.Steps.{is_made}
use Rattle.eden_objects.specs.Files.{files_of}

-- ---- one event

unnamed : (p k : List ℕ) (ks : List (List ℕ)) → has (path_set (k ∷ ks)) p ≡ false → (same_path p k ≡ false) × (has (path_set ks) p ≡ false)
unnamed p k ks none =
    let parts = or_parts (same_path p k) _ (sym (has-path_set (k ∷ ks) p) ∙ none) in
    (parts.0, has-path_set ks p ∙ parts.1)

insert_kept : (files : FileMap) (k : List ℕ) (file : Content) (p : List ℕ) → same_path p k ≡ false → file_at (fin.insert files k file) p ≡ file_at files p
insert_kept files k file p apart = file_at-insert files k file p ∙ ap (λ b. cond b (Some file) (file_at files p)) apart

remove_kept : (files : FileMap) (k p : List ℕ) → same_path p k ≡ false → file_at (fin.remove files k) p ≡ file_at files p
remove_kept files k p apart = file_at-remove files k p ∙ ap (λ b. cond b None (file_at files p)) apart

rename_kept : (files : FileMap) (old new p : List ℕ) → same_path p old ≡ false → same_path p new ≡ false → file_at (renames.renamed files old new) p ≡ file_at files p
rename_kept files old new p from to = by (same_bytes old new) (file_at files old)
  where
    by : (same : Bool) (file : Option Content) → file_at (if same then files else renames.moved files old new file) p ≡ file_at files p
    by true file = refl
    by false None = refl
    by false (Some file) = insert_kept (fin.remove files old) new file p to ∙ remove_kept files old p from

-- of a checkout, whatever it makes of the files
checkout_kept : (work root next target : FileMap) (p : List ℕ) → has (path_set (listing (union (unclean work root next target) (differ root target)))) p ≡ false
    → file_at next p ≡ file_at work p
checkout_kept work root next target p none =
    let both = or_parts _ _ (sym (has-union (unclean work root next target) (differ root target) p)
    ∙ ap (λ s. has s p) (sym (path_set-listing (union (unclean work root next target) (differ root target)))) ∙ none) in
    let sides = or_parts _ _ (sym (has-unclean work root next target p) ∙ both.0) in
    same_where next target p sides.1 ∙ sym (same_where root target p both.1) ∙ sym (same_where work root p sides.0)

pub next_kept : (commits : Commits) (row : Row) (change : Change) (p : List ℕ) → has (path_set (named commits row change (next_row commits row change))) p ≡ false
    → below_any (moved_prefixes change) p ≡ false → file_at (next_row commits row change).files p ≡ file_at row.files p
unfolding next_row next_files
next_kept commits row (Write path kind bytes) p none outside = insert_kept row.files path (record { kind = kind; bytes = bytes }) p (unnamed p path [] none).0
next_kept commits row (Remove path) p none outside = remove_kept row.files path p (unnamed p path [] none).0
next_kept commits row (Rename old new) p none outside =
    let parts = unnamed p old (new ∷ []) none in
    rename_kept row.files old new p parts.0 (unnamed p new [] parts.1).0
next_kept commits row (RenameDir old new) p none outside =
    let parts = or_parts (lies_below p old) _ outside in
    dir_renamed-elsewhere row.files old new p parts.0 (or_parts (lies_below p new) false parts.1).0
next_kept commits row (Checkout commit mode) p none outside =
    checkout_kept row.files (files_of (commits row.root)) (next_files commits row (Checkout commit mode)) (files_of (commits commit)) p none
next_kept commits row change p none outside = refl

kept : (commits : Commits) (opening : Row) (past : List Event) (event : Event) (p : List ℕ) → AreMade commits opening (event ∷ past)
    → has (path_set event.names) p ≡ false → below_any event.prefixes p ≡ false → file_at event.row.files p ≡ file_at (last_row opening past).files p
kept commits opening past event p made none outside =
    let one = is_made commits (last_row opening past) event made.0 in
    subst (λ e. has (path_set e.names) p ≡ false → below_any e.prefixes p ≡ false → file_at e.row.files p ≡ file_at (last_row opening past).files p) (sym one.made)
    (next_kept commits (last_row opening past) event.change p) none outside

-- ---- from a row to the last

-- no row is after the last one
pub none_after : (commits : Commits) (generation number : ℕ) (opening : Row) (past : List Event) (row : Row) → AreMade commits opening past
    → IsNotAfter generation number (last_row opening past) → IsRowOf opening past row → IsNotAfter generation number row
none_after commits generation number opening [] row made late is = subst (IsNotAfter generation number) (sym is) late
none_after commits generation number opening (event ∷ past) row made late (inl is) = subst (IsNotAfter generation number) (sym is) late
none_after commits generation number opening (event ∷ past) row made late (inr older) =
    none_after commits generation number opening past row made.1
    (earlier generation number (last_row opening past) event.row (event_follows commits opening past event made) late) older

pub itself : (row : Row) → IsNotAfter row.generation row.sequence row
itself row = inr (refl, omega arith)

-- an event of the range names the directories that it moved files between
below-counted : (generation since until : ℕ) (event : Event) (past : List Event) (p : List ℕ) → is_in_range generation since until event.row ≡ true
    → below_any (prefixes_told generation since until (event ∷ past)) p ≡ (below_any event.prefixes p || below_any (prefixes_told generation since until past) p)
below-counted generation since until event past p counts =
    ap (λ b. below_any (flat_map (λ e. e.prefixes) (cond b (event ∷ events_in generation since until past) (events_in generation since until past))) p) counts
    ∙ list_any-append (λ prefix. lies_below p prefix) event.prefixes (prefixes_told generation since until past)

-- where nothing names the path after a number, nor moves a directory above it, a row of the generation at that number or after it has what
-- the last row has
pub still : (commits : Commits) (generation since until : ℕ) (opening : Row) (past : List Event) (row : Row) (p : List ℕ) → AreMade commits opening past
    → IsRowOf opening past row → row.generation ≡ generation → since ≤ row.sequence
    → (last_row opening past).generation ≡ generation → (last_row opening past).sequence ≤ until
    → is_among (named_since generation since until opening past) (prefixes_told generation since until past) p ≡ false
    → file_at row.files p ≡ file_at (last_row opening past).files p
still commits generation since until opening [] row p made is g low last high none = ap (λ r. file_at r.files p) is
still commits generation since until opening (event ∷ past) row p made (inl is) g low last high none = ap (λ r. file_at r.files p) is
still commits generation since until opening (event ∷ past) row p made (inr older) g low last high none =
    by (still commits generation since until opening past row p made.1 older g low) (event_follows commits opening past event made)
    (none_after commits (last_row opening past).generation (last_row opening past).sequence opening past row made.1 (itself (last_row opening past)) older)
  where
    in_turn : (file_at row.files p ≡ file_at (last_row opening past).files p) → (has (path_set event.names) p ≡ false) → (below_any event.prefixes p ≡ false)
        → file_at row.files p ≡ file_at event.row.files p
    in_turn before unnamed_here outside = before ∙ sym (kept commits opening past event p made unnamed_here outside)

    by : ((last_row opening past).generation ≡ generation → (last_row opening past).sequence ≤ until
        → is_among (named_since generation since until opening past) (prefixes_told generation since until past) p ≡ false → file_at row.files p ≡ file_at (last_row opening past).files p)
        → Follows (last_row opening past) event.row → IsNotAfter (last_row opening past).generation (last_row opening past).sequence row
        → file_at row.files p ≡ file_at event.row.files p
    by before (inl next) (inl lt) = absurd (let same = next.0 in omega arith)
    by before (inl next) (inr both) =
        let same = next.0 in
        let number = next.1 in
        let le = both.1 in
        let counts = counted generation since until event.row last (omega arith) high in
        let apart = or_parts _ _ none in
        let names = or_parts _ _ (sym (named-counted commits generation since until opening event past p made counts) ∙ apart.0) in
        let prefixes = or_parts _ _ (sym (below-counted generation since until event past p counts) ∙ apart.1) in
        in_turn (before (omega arith) (omega arith) (or_from _ _ names.1 prefixes.1)) names.0 prefixes.0
    by before (inr lower) (inl lt) = absurd (omega arith)
    by before (inr lower) (inr both) = absurd (let same = both.0 in omega arith)

-- where the last row is not after the number, no event since has moved a directory
pub none_moved : (commits : Commits) (generation since until : ℕ) (opening : Row) (past : List Event) → AreMade commits opening past
    → IsNotAfter generation since (last_row opening past) → prefixes_told generation since until past ≡ []
none_moved commits generation since until opening [] made late = refl
none_moved commits generation since until opening (event ∷ past) made late =
    ap (λ b. flat_map (λ e. e.prefixes) (cond b (event ∷ events_in generation since until past) (events_in generation since until past)))
    (skipped generation since until event.row late)
    ∙ none_moved commits generation since until opening past made.1
    (earlier generation since (last_row opening past) event.row (event_follows commits opening past event made) late)

-- ---- lists of directories

-- what is below none of some directories is below none that are among them
pub below_within : (p : List ℕ) (ps more : List (List ℕ))
    → ((q : List ℕ) → list_any (λ k. same_path q k) ps ≡ true → list_any (λ k. same_path q k) more ≡ true)
    → below_any more p ≡ false → below_any ps p ≡ false
below_within p [] more within none = refl
below_within p (q ∷ ps) more within none =
    or_from _ _ (unlisted (λ k. lies_below p k) more q none (within q (or_left _ _ (same_path-refl q))))
    (below_within p ps more (λ r e. within r (or_right (same_path r q) _ e)) none)

-- what is below none of the set of some directories is below none of them
pub below_listed : (p : List ℕ) (ps : List (List ℕ)) → below_any (listing (path_set ps)) p ≡ false → below_any ps p ≡ false
below_listed p ps = below_within p ps (listing (path_set ps)) (λ q e. sym (has-listing (path_set ps) q) ∙ has-path_set ps q ∙ e)
