-- Going back over an event leads to the row before it, and the way is open.
use Rattle.std.proofs.Common.{◌≡◌, ℕ, ◌⊎◌, inl, inr, Bool, true, false, not, ◌||◌, List, [], ◌∷◌, map, Option, Some, None, is_some, refl, sym, ap, subst, ◌∙◌}
use Rattle.std.specs.Prelude.{IsSome, if◌then◌else◌}
use Rattle.std.specs.List.{AllByRecursion, list_any, zip}
use Rattle.std.proofs.lemmas.Bool.{false_from_ne_true, or_from, or_parts}
use Rattle.std.specs.FinMap as fin
use Rattle.eden_ids.specs.declared.content.Content.{Content}
use Rattle.eden_ids.specs.Paths.{lies_below}
use Rattle.eden_ids.specs.FileMaps.{FileMap, IsFileMap, file_at, has, has_file_below, listing, path_set, paths, same_path}
use Rattle.eden_ids.specs.Sameness.{same_bytes}
use Rattle.eden_ids.specs.Texts.{AreTexts, IsPathText}
use Rattle.eden_ids.proofs.FileMapLemmas.{bytes_itself, has-listing, has-path_set, not_below, same_path-is}
use Rattle.eden_ids.proofs.TreeQuestions.{any_witness}
use Rattle.eden_objects.specs.Files.{files_of}
use Rattle.eden_overlay.specs.Carried.{carried, carried_files}
use Rattle.eden_overlay.proofs.CarriedLemmas.{below-trans, carried-arrives, carried-below, file_at-carried, nested}
use Rattle.eden_history.specs.declared.change.Change.{Change}
use Rattle.eden_history.specs.declared.change.Change.TheVariants.{Write, Remove, Rename, RenameDir, Checkout, Reset, Flush, Remount, Import}
use Rattle.eden_history.specs.declared.change.ChangeFault.{ChangeFault}
use Rattle.eden_history.specs.declared.change.ChangeFault.TheVariants.{NotADirectory, IsADirectory, NoEntry, IntoItself}
use Rattle.eden_history.specs.Worlds.{Row, Event, Commits, last_row}
use Rattle.eden_history.specs.Checkouts.{unclean}
use Rattle.eden_history.specs.DirRenames.{dir_renamed, free_fault, has_file_upward, rename_dir_fault, source_fault, target_fault}
use Rattle.eden_history.specs.Named.{changed_paths, named, unclean_set}
use Rattle.eden_history.specs.Recorded.{delta_of, starts, touch_at, touches_of}
use Rattle.eden_history.specs.Outcome.{change_fault, event_at, is_event, next_files, next_row}
use Rattle.eden_history.specs.Legal.{AreMade}
use Rattle.eden_history.specs.Back.{IsMet, IsMoved, IsTree, Places, need_of, places, befores, put_all, uncarried, was}
use Rattle.eden_history.proofs.CheckoutLaws.{has-unclean, same_where}
use Rattle.eden_history.proofs.DirRenameLaws.{dir_renamed-elsewhere}
use Rattle.eden_history.proofs.Kept.{next_kept}
use Rattle.eden_history.proofs.LegalFiles.{allowed_files}
use Rattle.eden_history.proofs.RenameLaws.{first-none, no_fault}
use Rattle.eden_history.proofs.Steps.{is_made}

-- ---- paths that are put

abbrev told : Places → List (List ℕ) → List (List ℕ × Bool)
told there ps = map (λ q. (q, there q)) ps

-- where each path is put to what it was, and any other is what it was, all are
put_known : (there : Places) (ps : List (List ℕ)) (after : Places) (p : List ℕ) → (list_any (λ q. same_path p q) ps ≡ false → after p ≡ there p)
    → put_all (told there ps) after p ≡ there p
put_known there [] after p rest = rest refl
put_known there (k ∷ ps) after p rest = put_known there ps (λ q. if same_path q k then there k else after q) p (by (same_path p k) refl)
  where
    by : (b : Bool) → same_path p k ≡ b → list_any (λ q. same_path p q) ps ≡ false → (if b then there k else after p) ≡ there p
    by true e none = ap there (sym (same_path-is p k e))
    by false e none = rest (or_from _ _ e none)

touched_pairs : (row : Row) (event : Event) (ps : List (List ℕ))
    → befores (map (touch_at row event) ps) ≡ told (places row.files) ps
touched_pairs row event [] = refl
touched_pairs row event (k ∷ ps) = ap (λ more. (k, places row.files k) ∷ more) (touched_pairs row event ps)

flagged_pairs : (there : Places) (ps : List (List ℕ)) → zip ps (map there ps) ≡ told there ps
flagged_pairs there [] = refl
flagged_pairs there (k ∷ ps) = ap (λ more. (k, there k) ∷ more) (flagged_pairs there ps)

touched_back : (commits : Commits) (row : Row) (change : Change) (p : List ℕ)
    → (has (path_set (changed_paths change)) p ≡ false → file_at (next_row commits row change).files p ≡ file_at row.files p)
    → put_all (befores (touches_of row (event_at commits row change (next_row commits row change)))) (places (next_row commits row change).files) p
    ≡ places row.files p
touched_back commits row change p kept =
    ap (λ pairs. put_all pairs (places (next_row commits row change).files) p) (touched_pairs row (event_at commits row change (next_row commits row change)) (changed_paths change))
    ∙ put_known (places row.files) (changed_paths change) (places (next_row commits row change).files) p
    (λ none. ap is_some (kept (has-path_set (changed_paths change) p ∙ none)))

checked_back : (work root next target : FileMap) (ps : List (List ℕ)) (p : List ℕ) → ps ≡ listing (unclean work root next target)
    → put_all (zip ps (map (places work) ps)) (places root) p ≡ places work p
checked_back work root next target ps p is =
    ap (λ pairs. put_all pairs (places root) p) (flagged_pairs (places work) ps)
    ∙ put_known (places work) ps (places root) p (λ none.
    let clean = or_parts _ _ (sym (has-unclean work root next target p) ∙ has-listing (unclean work root next target) p
    ∙ ap (list_any (λ q. same_path p q)) (sym is) ∙ none) in
    ap is_some (sym (same_where work root p clean.0)))

-- ---- a directory

-- what a rename that is not refused finds
record IsWay (m : FileMap) (old new : List ℕ) : Type 0 where
  source : has_file_below m old ≡ true
  into : lies_below new old ≡ false
  free : has_file_below m new ≡ false

some_entry : (below : Bool) → (if below then None else Some NoEntry) ≡ None → below ≡ true
some_entry true e = refl
some_entry false e = let bad : ◌≡◌ {A = Option ChangeFault} (Some NoEntry) None = e in cc

way : (m : FileMap) (old new : List ℕ) → same_bytes old new ≡ false → rename_dir_fault m old new ≡ None → IsWay m old new
way m old new other allowed =
    let both = first-none (source_fault m old) _ allowed in
    let target : target_fault m old new ≡ None = sym (ap (λ b. if b then None else target_fault m old new) other) ∙ both.1 in
    let there = no_fault (has_file_upward m old) NotADirectory _ both.0 in
    let out = no_fault (lies_below new old) IntoItself _ target in
    let room = first-none (free_fault m new) _ out.1 in
    let upward = no_fault (has_file_upward m new) NotADirectory _ room.0 in
    let below = no_fault (has_file_below m new) IsADirectory None upward.1 in
    record { source = some_entry (has_file_below m old) there.1; into = out.0; free = below.0 }

none_below : (m : FileMap) (top p : List ℕ) → has_file_below m top ≡ false → lies_below p top ≡ true → places m p ≡ false
none_below m top p free below = false_from_ne_true (places m p) (λ there. let bad : true ≡ false = sym below ∙ not_below m top p free there in cc)

whole : (m : FileMap) (old new : List ℕ) → same_bytes old new ≡ false → dir_renamed m old new ≡ carried_files m old new
whole m old new other = ap (λ b. if b then m else carried_files m old new) other

carried_back : (m : FileMap) (old new p : List ℕ) → same_bytes old new ≡ false → IsWay m old new
    → uncarried old new (places (dir_renamed m old new)) p ≡ places m p
carried_back m old new p other is = by (lies_below p old) refl (lies_below p new) refl
  where
    by : (a : Bool) → lies_below p old ≡ a → (b : Bool) → lies_below p new ≡ b
        → (if a then places (dir_renamed m old new) (carried old new p) else if b then false else places (dir_renamed m old new) p) ≡ places m p
    by true from b to = ap (λ files. places files (carried old new p)) (whole m old new other) ∙ ap is_some (carried-arrives m old new p from)
    by false from true to = sym (none_below m new p is.free to)
    by false from false to = ap is_some (dir_renamed-elsewhere m old new p from to)

-- the old directory was not below the new one
outside : (m : FileMap) (old new p : List ℕ) → IsWay m old new → places m p ≡ true → lies_below p old ≡ true → lies_below old new ≡ false
outside m old new p is there below =
    false_from_ne_true (lies_below old new)
    (λ e. let bad : true ≡ false = sym (below-trans p old new below e) ∙ not_below m new p is.free there in cc)

-- no path is below both
apart : (old new p : List ℕ) → same_bytes old new ≡ false → lies_below old new ≡ false → lies_below new old ≡ false → lies_below p old ≡ true → lies_below p new ≡ false
apart old new p other out into below = false_from_ne_true (lies_below p new) (λ e. by (nested p old new below e))
  where
    by : (old ≡ new) ⊎ ((lies_below old new ≡ true) ⊎ (lies_below new old ≡ true)) → ⊥
    by (inl one) = let bad : true ≡ false = sym (bytes_itself old) ∙ ap (same_bytes old) one ∙ other in cc
    by (inr (inl e)) = let bad : true ≡ false = sym e ∙ out in cc
    by (inr (inr e)) = let bad : true ≡ false = sym e ∙ into in cc

moved_back : (m : FileMap) (old new : List ℕ) → same_bytes old new ≡ false → IsWay m old new → IsTree (places m) → IsTree (places (dir_renamed m old new))
    → IsMoved old new (places (dir_renamed m old new))
moved_back m old new other is before after =
    let top = any_witness (λ p. lies_below p old) (paths m) is.source in
    let there : places m top.0 ≡ true = fin.contains_key-keys m top.0 ∙ top.1 in
    let out = outside m old new top.0 is there top.2 in
    record {
      tree = after;
      earlier = subst IsTree (sym (λ i p. carried_back m old new p other is i)) before;
      outside = out;
      some = (
        carried old new top.0,
        ap (λ files. places files (carried old new top.0)) (whole m old new other) ∙ ap is_some (carried-arrives m old new top.0 top.2) ∙ there,
        carried-below old new top.0 top.2,
      );
      none = λ p below.
          let clear = apart old new p other out is.into below in
          ap (λ files. places files p) (whole m old new other)
          ∙ ap is_some (file_at-carried m old new p ∙ (λ i. if clear i then file_at m (carried new old p) else if below i then None else file_at m p));
    }

-- ---- a change

not_true : (b : Bool) → not b ≡ true → b ≡ false
not_true true e = absurd (cc)
not_true false e = refl

was_change : (commits : Commits) (row : Row) (change : Change) → starts change ≡ false → is_event change ≡ true → change_fault commits row change ≡ None → (p : List ℕ)
    → was commits (delta_of row (event_at commits row change (next_row commits row change))) (places (next_row commits row change).files) p ≡ places row.files p
unfolding next_row next_files
was_change commits row (Write path kind bytes) plain happens allowed p =
    touched_back commits row (Write path kind bytes) p (λ none. next_kept commits row (Write path kind bytes) p none refl)
was_change commits row (Remove path) plain happens allowed p = touched_back commits row (Remove path) p (λ none. next_kept commits row (Remove path) p none refl)
was_change commits row (Rename old new) plain happens allowed p = touched_back commits row (Rename old new) p (λ none. next_kept commits row (Rename old new) p none refl)
was_change commits row (RenameDir old new) plain happens allowed p =
    let other = not_true (same_bytes old new) happens in carried_back row.files old new p other (way row.files old new other allowed)
was_change commits row (Checkout commit mode) plain happens allowed p =
    checked_back row.files (files_of (commits row.root)) (next_row commits row (Checkout commit mode)).files (files_of (commits commit))
    (listing (unclean_set commits row commit (next_row commits row (Checkout commit mode)))) p refl
was_change commits row (Reset commit) plain happens allowed p = refl
was_change commits row Flush plain happens allowed p = absurd (cc)
was_change commits row (Remount generation) plain happens allowed p = absurd (cc)
was_change commits row (Import objects) plain happens allowed p = absurd (cc)

-- what the way back over a change needs
met_change : (commits : Commits) (row : Row) (change : Change) → is_event change ≡ true → change_fault commits row change ≡ None
    → IsTree (places row.files) → IsTree (places (next_row commits row change).files) → IsSome (commits row.root)
    → AllByRecursion (IsMet commits) (need_of (delta_of row (event_at commits row change (next_row commits row change))) (places (next_row commits row change).files))
unfolding next_row next_files
met_change commits row (RenameDir old new) happens allowed before after rooted =
    let other = not_true (same_bytes old new) happens in (moved_back row.files old new other (way row.files old new other allowed) before after, tt)
met_change commits row (Checkout commit mode) happens allowed before after rooted = (rooted, tt)
met_change commits row change happens allowed before after rooted = tt

-- ---- an event

-- the files of a row are those of a tree
pub tree_of : (files : FileMap) → IsFileMap files → AreTexts files → IsTree (places files)
tree_of files fits texts = record { apart = fits; paths = λ p there. by p (file_at files p) refl there }
  where
    by : (p : List ℕ) (file : Option Content) → file_at files p ≡ file → is_some file ≡ true → IsPathText p
    by p None e there = absurd (cc)
    by p (Some file) e there = (texts p file e).0

-- before an event files were where the row before it has them
pub was_event : (commits : Commits) (opening : Row) (past : List Event) (event : Event) → AreMade commits opening (event ∷ past) → starts event.change ≡ false
    → was commits (delta_of (last_row opening past) event) (places event.row.files) ≡ places (last_row opening past).files
was_event commits opening past event made plain =
    let before = last_row opening past in
    let one = is_made commits before event made.0 in
    subst (λ (e : Event). was commits (delta_of before e) (places e.row.files) ≡ places before.files) (sym one.made)
    (λ i p. was_change commits before event.change plain one.happens (allowed_files commits before event.change one.allowed) p i)

pub met_event : (commits : Commits) (opening : Row) (past : List Event) (event : Event) → AreMade commits opening (event ∷ past)
    → IsTree (places (last_row opening past).files) → IsTree (places event.row.files) → IsSome (commits (last_row opening past).root)
    → AllByRecursion (IsMet commits) (need_of (delta_of (last_row opening past) event) (places event.row.files))
met_event commits opening past event made before after rooted =
    let row = last_row opening past in
    let one = is_made commits row event made.0 in
    subst (λ (e : Event). IsTree (places e.row.files) → AllByRecursion (IsMet commits) (need_of (delta_of row e) (places e.row.files))) (sym one.made)
    (λ tree. met_change commits row event.change one.happens (allowed_files commits row event.change one.allowed) before tree rooted) after
