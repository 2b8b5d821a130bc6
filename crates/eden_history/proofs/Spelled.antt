-- What makes replies spellable is kept by every change, and holds of each row of a world and of each path that an event names.
use Rattle.std.proofs.Common.{◌≡◌, ℕ, ◌^◌, ◌<◌, ◌⊎◌, inl, inr, Bool, true, false, cond, ◌||◌, is_some, nat_lt, List, [], ◌∷◌, ◌++◌, length, drop, Option, Some, None, Ok, refl, sym, ap, subst, ◌∙◌, arith}
use Rattle.std.specs.Prelude.{if◌then◌else◌}
use Rattle.std.proofs.lemmas.Bool.{ltb-false}
use Rattle.std.specs.List.{AllByRecursion, flat_map}
use Rattle.std.proofs.lemmas.List.{map-append}
use Rattle.std.proofs.lemmas.List.Elements.{All-drop, All-from_recursion, recursion_from_All}
use Rattle.std.specs.FinMap as fin
use Rattle.eden_ids.specs.declared.id.Id.{Id}
use Rattle.eden_ids.specs.declared.content.Content.{Content}
use Rattle.eden_ids.specs.declared.content.Kind.{Kind}
use Rattle.eden_ids.specs.Paths.{lies_below}
use Rattle.eden_ids.specs.FileMaps.{FileMap, clashes_any, differ, file_at, listing, path_set}
use Rattle.eden_ids.specs.Sameness.{same_bytes}
use Rattle.eden_ids.specs.Texts.{AreBytes, AreTexts, IsContentText, IsIdText, IsPathText}
use Rattle.eden_ids.proofs.Members.{all_joined, all_of_set, all_of_union}
use Rattle.eden_ids.proofs.TextLemmas.{differ_texts, texts_insert, texts_none, texts_remove}
use Rattle.eden_objects.specs.declared.import.Object.{Object}
use Rattle.eden_objects.specs.Objects.{Held}
use Rattle.eden_objects.specs.Closed.{IsClosed}
use Rattle.eden_objects.specs.Commits.{commit_map}
use Rattle.eden_objects.specs.Files.{files_of}
use Rattle.eden_objects.specs.Imports.{import_outcome}
use Rattle.eden_objects.specs.Small.{AreSmall}
use Rattle.eden_objects.proofs.CommitTexts.{commits_texts}
use Rattle.eden_objects.proofs.Importing.{imports_small}
use Rattle.eden_history.specs.declared.change.Mode.{Mode}
use Rattle.eden_history.specs.declared.change.Mode.TheVariants.{Normal, Dry, Force}
use Rattle.eden_history.specs.declared.change.Change.{Change}
use Rattle.eden_history.specs.declared.change.Change.TheVariants.{Write, Remove, Rename, RenameDir, Checkout, Reset, Remount}
use Rattle.eden_history.specs.declared.change.ChangeFault.TheVariants.{TooLarge}
use Rattle.eden_history.specs.Worlds.{Row, Event, Commits, Namer, WorldState, commits_of, last_row, now, opened}
use Rattle.eden_history.specs.Checkouts.{checked_out, is_blocked, is_clean, rule_of, unclean}
use Rattle.eden_history.specs.Named.{commits_differ, moved_prefixes, named, unclean_set}
use Rattle.eden_history.specs.Said.{paths_said, said_of}
use Rattle.eden_history.specs.Changes.{events_in, is_in_range, prefixes_since, prefixes_told, said, said_since}
use Rattle.eden_history.specs.Outcome.{change_fault, is_event, next_files, next_generation, next_root, next_row, refusal}
use Rattle.eden_history.specs.Renames.{moved, place_fault, renamed, write_fault}
use Rattle.eden_overlay.specs.Carried.{carried, carried_files}
use Rattle.eden_history.specs.DirRenames.{breaks_a_path, dir_renamed, rename_dir_fault, source_fault, target_fault}
use Rattle.eden_history.specs.Legal.{AreMade, IsWorld}
use Rattle.eden_history.specs.Imports.{over_held}
use Rattle.eden_history.specs.Spellable.{AreObjects, IsChange, IsRowText, IsSpellable}
use Rattle.eden_overlay.proofs.CarriedLemmas.{carried-back, carried-below, file_at-carried}
use Rattle.eden_history.proofs.CheckoutLaws.{file_at-checked_out}
use Rattle.eden_history.proofs.DirRenameLaws.{carried_path, is_allowed}
use Rattle.eden_history.proofs.LegalFiles.{allowed_files, files_hold}
use Rattle.eden_history.proofs.Saying.{names-said, said-counted, said-none, said-skipped}
use Rattle.eden_history.proofs.RenameLaws.{first-none, no_fault}
use Rattle.eden_history.proofs.Steps.{has_room, is_made}

-- ---- the files after a change

-- each commit that is there holds paths and files within the limits
abbrev HoldTexts : Commits → Type 0
HoldTexts commits = (id : Id) (files : FileMap) → commits id ≡ Some files → AreTexts files

pub held_texts : (commits : Commits) → HoldTexts commits → (id : Id) → AreTexts (files_of (commits id))
held_texts commits texts = files_hold AreTexts commits texts_none texts

-- what may be written is within the limit
pub written_text : (files : FileMap) (path bytes : List ℕ) (kind : Kind) → write_fault files path bytes ≡ None → AreBytes bytes → IsContentText (record { kind = kind; bytes = bytes })
written_text files path bytes kind allowed all =
    let small : nat_lt 8388608 (length bytes) ≡ false = (no_fault (nat_lt 8388608 (length bytes)) TooLarge None (first-none (place_fault files path) _ allowed).1).0 in
    record { few = ltb-false 8388608 (length bytes) small; bytes = all }

pub texts_renamed : (files : FileMap) (old new : List ℕ) → AreTexts files → IsPathText new → AreTexts (renamed files old new)
texts_renamed files old new texts path = by (same_bytes old new)
  where
    at : (file : Option Content) → file_at files old ≡ file → AreTexts (moved files old new file)
    at None e = texts
    at (Some file) e = texts_insert (fin.remove files old) new file (texts_remove files old texts) path (texts old file e).1

    by : (same : Bool) → AreTexts (if same then files else moved files old new (file_at files old))
    by true = texts
    by false = at (file_at files old) refl

all_dropped : (n : ℕ) (bytes : List ℕ) → AreBytes bytes → AreBytes (drop n bytes)
all_dropped n bytes are = recursion_from_All (λ b. b < 256) (drop n bytes) (All-drop (λ b. b < 256) n bytes (All-from_recursion (λ b. b < 256) bytes are))

-- a carried path is one, and its bytes are those of the new directory and of the old path
texts_carried : (files : FileMap) (old new : List ℕ) → AreTexts files → IsPathText new → breaks_a_path files old new ≡ false → AreTexts (carried_files files old new)
texts_carried files old new texts path unbroken p file at =
    by (lies_below p new) (lies_below p old) refl (sym (file_at-carried files old new p) ∙ at)
  where
    arrived : lies_below p new ≡ true → file_at files (carried new old p) ≡ Some file → IsPathText p × IsContentText file
    arrived below there =
        let before = texts (carried new old p) file there in
        let is = carried_path files old new (carried new old p) unbroken (ap is_some there) (carried-below new old p below) in
        let bytes = all_joined (λ b. b < 256) new (drop (length old) (carried new old p)) path.bytes (all_dropped (length old) (carried new old p) before.0.bytes) in
        (subst IsPathText (carried-back new old p below) (record { path = is; bytes = bytes }), before.1)

    by : (into outof : Bool) → lies_below p new ≡ into → (if into then file_at files (carried new old p) else if outof then None else file_at files p) ≡ Some file
        → IsPathText p × IsContentText file
    by true outof below e = arrived below e
    by false true apart e = absurd (let bad : ◌≡◌ {A = Option Content} None (Some file) = e in cc)
    by false false apart e = texts p file e

pub texts_dir_renamed : (files : FileMap) (old new : List ℕ) → AreTexts files → IsPathText new → rename_dir_fault files old new ≡ None → AreTexts (dir_renamed files old new)
texts_dir_renamed files old new texts path allowed = by (same_bytes old new) (first-none (source_fault files old) _ allowed).1
  where
    by : (same : Bool) → (if same then None else target_fault files old new) ≡ None → AreTexts (if same then files else carried_files files old new)
    by true e = texts
    by false e = texts_carried files old new texts path (is_allowed files old new e).1

-- a file that a checkout leaves was in the working copy or is in the target
from_either : (mode : Mode) (work root target : FileMap) (p : List ℕ) (file : Content) → rule_of mode work root target p ≡ Some file
    → (file_at work p ≡ Some file) ⊎ (file_at target p ≡ Some file)
from_either Normal work root target p file is = by (is_clean work root p) (is_blocked work root target p) is
  where
    by : (clean blocked : Bool) → cond clean (cond blocked None (file_at target p)) (file_at work p) ≡ Some file → (file_at work p ≡ Some file) ⊎ (file_at target p ≡ Some file)
    by true true e = absurd (let bad : ◌≡◌ {A = Option Content} None (Some file) = e in cc)
    by true false e = inr e
    by false blocked e = inl e
from_either Dry work root target p file is = inl is
from_either Force work root target p file is = by (is_some (file_at root p) || is_some (file_at target p)) (clashes_any target p) is
  where
    by : (theirs clashing : Bool) → cond theirs (file_at target p) (cond clashing None (file_at work p)) ≡ Some file → (file_at work p ≡ Some file) ⊎ (file_at target p ≡ Some file)
    by true clashing e = inr e
    by false true e = absurd (let bad : ◌≡◌ {A = Option Content} None (Some file) = e in cc)
    by false false e = inl e

pub texts_checked_out : (mode : Mode) (work root target : FileMap) → AreTexts work → AreTexts target → AreTexts (checked_out mode work root target)
texts_checked_out mode work root target ours theirs p file at =
    by (from_either mode work root target p file (sym (file_at-checked_out mode work root target p) ∙ at))
  where
    by : (file_at work p ≡ Some file) ⊎ (file_at target p ≡ Some file) → IsPathText p × IsContentText file
    by (inl e) = ours p file e
    by (inr e) = theirs p file e

texts_next : (commits : Commits) (row : Row) (change : Change) → HoldTexts commits → change_fault commits row change ≡ None → IsChange change → AreTexts row.files
    → AreTexts (next_files commits row change)
unfolding next_files
texts_next commits row (Write path kind bytes) held allowed is texts =
    texts_insert row.files path (record { kind = kind; bytes = bytes }) texts is.0 (written_text row.files path bytes kind allowed is.1)
texts_next commits row (Remove path) held allowed is texts = texts_remove row.files path texts
texts_next commits row (Rename old new) held allowed is texts = texts_renamed row.files old new texts is.1
texts_next commits row (RenameDir old new) held allowed is texts = texts_dir_renamed row.files old new texts is.1 allowed
texts_next commits row (Checkout commit mode) held allowed is texts =
    texts_checked_out mode row.files (files_of (commits row.root)) (files_of (commits commit)) texts (held_texts commits held commit)
texts_next commits row change held allowed is texts = texts

-- ---- the rows of a world

generation_fits : (row : Row) (change : Change) → IsChange change → row.generation < 2 ^ 64 → next_generation row change < 2 ^ 64
generation_fits row (Remount generation) is fits = is
generation_fits row change is fits = fits

root_text : (row : Row) (change : Change) → IsChange change → IsIdText row.root → IsIdText (next_root row change)
root_text row (Checkout commit mode) is root = is
root_text row (Reset commit) is root = is
root_text row change is root = root

next_text : (commits : Commits) (row : Row) (change : Change) → HoldTexts commits → refusal commits row change ≡ None → is_event change ≡ true → IsChange change → IsRowText row
    → IsRowText (next_row commits row change)
unfolding next_row
next_text commits row change held allowed happens is texts =
    record {
      generation = generation_fits row change is texts.generation;
      sequence = has_room commits row change allowed happens;
      root = root_text row change is texts.root;
      files = texts_next commits row change held (allowed_files commits row change allowed) is texts.files;
    }

pub row_texts : (commits : Commits) (opening : Row) (past : List Event) → HoldTexts commits → IsRowText opening → AllByRecursion (λ event. IsChange event.change) past
    → AreMade commits opening past → IsRowText (last_row opening past)
row_texts commits opening [] held texts are made = texts
row_texts commits opening (event ∷ past) held texts are made =
    let one = is_made commits (last_row opening past) event made.0 in
    subst (λ (e : Event). IsRowText e.row) (sym one.made)
    (next_text commits (last_row opening past) event.change held one.allowed one.happens are.0 (row_texts commits opening past held texts are.1 made.1))

-- the present row
pub now_texts : (name : List ℕ → List ℕ → Id) (world : WorldState) → IsWorld name world → IsSpellable world → IsRowText (now world)
now_texts name world is spellable =
    row_texts (commits_of world) world.opening world.past (commits_texts world.held is.closed spellable.small) spellable.opening spellable.changes is.legal.1

-- ---- the paths that events name

unclean_texts : (work root next target : FileMap) → AreTexts work → AreTexts root → AreTexts next → AreTexts target → AllByRecursion IsPathText (listing (unclean work root next target))
unfolding unclean
unclean_texts work root next target first second third fourth =
    all_of_union IsPathText (differ work root) (differ next target) (differ_texts work root first second) (differ_texts next target third fourth)

names_texts : (commits : Commits) (before : Row) (change : Change) (after : Row) → HoldTexts commits → IsChange change → AreTexts before.files → AreTexts after.files
    → AllByRecursion IsPathText (named commits before change after)
names_texts commits before (Write path kind bytes) after held is old new = (is.0, tt)
names_texts commits before (Remove path) after held is old new = (is, tt)
names_texts commits before (Rename from to) after held is old new = (is.0, (is.1, tt))
names_texts commits before (Checkout commit mode) after held is old new =
    let root = held_texts commits held before.root in
    let target = held_texts commits held commit in
    all_of_union IsPathText (unclean_set commits before commit after) (commits_differ commits before.root commit)
    (unclean_texts before.files (files_of (commits before.root)) after.files (files_of (commits commit)) old root new target)
    (differ_texts (files_of (commits before.root)) (files_of (commits commit)) root target)
names_texts commits before (Reset commit) after held is old new =
    differ_texts (files_of (commits before.root)) (files_of (commits commit)) (held_texts commits held before.root) (held_texts commits held commit)
names_texts commits before change after held is old new = tt

event_texts : (commits : Commits) (opening : Row) (past : List Event) (event : Event) → HoldTexts commits → IsRowText opening → AllByRecursion (λ e. IsChange e.change) (event ∷ past)
    → AreMade commits opening (event ∷ past) → AllByRecursion IsPathText event.names
event_texts commits opening past event held texts are made =
    let one = is_made commits (last_row opening past) event made.0 in
    let before = row_texts commits opening past held texts are.1 made.1 in
    let after = next_text commits (last_row opening past) event.change held one.allowed one.happens are.0 before in
    subst (λ (e : Event). AllByRecursion IsPathText e.names) (sym one.made)
    (names_texts commits (last_row opening past) event.change (next_row commits (last_row opening past) event.change) held are.0 before.files after.files)

all_both : (ps qs : List (List ℕ)) → AllByRecursion IsPathText ps → AllByRecursion IsPathText qs → AllByRecursion IsPathText (ps ++ qs)
all_both [] qs first second = second
all_both (p ∷ ps) qs first second = (first.0, all_both ps qs first.1 second)

said_texts : (commits : Commits) (generation since until : ℕ) (opening : Row) (past : List Event) → HoldTexts commits → IsRowText opening
    → AllByRecursion (λ event. IsChange event.change) past → AreMade commits opening past → AllByRecursion IsPathText (paths_said (said generation since until opening past))
said_texts commits generation since until opening [] held texts are made =
    subst (λ list. AllByRecursion IsPathText (paths_said list)) (sym (said-none generation since until opening)) tt
said_texts commits generation since until opening (event ∷ past) held texts are made =
    by (is_in_range generation since until event.row) refl (said_texts commits generation since until opening past held texts are.1 made.1)
  where
    names : AllByRecursion IsPathText (paths_said (said_of (last_row opening past) event))
    names = subst (AllByRecursion IsPathText) (sym (names-said commits opening past event made)) (event_texts commits opening past event held texts are made)

    by : (b : Bool) → is_in_range generation since until event.row ≡ b → AllByRecursion IsPathText (paths_said (said generation since until opening past))
        → AllByRecursion IsPathText (paths_said (said generation since until opening (event ∷ past)))
    by true e older =
        subst (AllByRecursion IsPathText)
        (sym (ap paths_said (said-counted generation since until opening event past e)
        ∙ map-append (λ one. one.0) (said generation since until opening past) (said_of (last_row opening past) event)))
        (all_both (paths_said (said generation since until opening past)) (paths_said (said_of (last_row opening past) event)) older names)
    by false e older = subst (λ list. AllByRecursion IsPathText (paths_said list)) (sym (said-skipped generation since until opening event past e)) older

-- the paths of which something is said since a number of the present generation
pub named_texts : (name : List ℕ → List ℕ → Id) (world : WorldState) (since : ℕ) → IsWorld name world → IsSpellable world
    → AllByRecursion IsPathText (listing (path_set (paths_said (said_since world since))))
named_texts name world since is spellable =
    all_of_set IsPathText (paths_said (said_since world since))
    (said_texts (commits_of world) (now world).generation since (now world).sequence world.opening world.past
    (commits_texts world.held is.closed spellable.small) spellable.opening spellable.changes is.legal.1)

-- ---- directories

moved_texts : (change : Change) → IsChange change → AllByRecursion IsPathText (moved_prefixes change)
moved_texts (RenameDir old new) is = (is.0, (is.1, tt))
moved_texts change is = tt

told_texts : (commits : Commits) (generation since until : ℕ) (opening : Row) (past : List Event) → AllByRecursion (λ event. IsChange event.change) past
    → AreMade commits opening past → AllByRecursion IsPathText (prefixes_told generation since until past)
told_texts commits generation since until opening [] are made = tt
told_texts commits generation since until opening (event ∷ past) are made =
    by (is_in_range generation since until event.row) (told_texts commits generation since until opening past are.1 made.1)
  where
    here : AllByRecursion IsPathText event.prefixes
    here =
        subst (λ (e : Event). AllByRecursion IsPathText e.prefixes) (sym (is_made commits (last_row opening past) event made.0).made)
        (moved_texts event.change are.0)

    by : (counts : Bool) → AllByRecursion IsPathText (prefixes_told generation since until past)
        → AllByRecursion IsPathText (flat_map (λ e. e.prefixes) (cond counts (event ∷ events_in generation since until past) (events_in generation since until past)))
    by true older = all_both event.prefixes (prefixes_told generation since until past) here older
    by false older = older

-- the directories between which files were moved since a number of the present generation
pub prefixes_texts : (name : List ℕ → List ℕ → Id) (world : WorldState) (since : ℕ) → IsWorld name world → IsSpellable world
    → AllByRecursion IsPathText (prefixes_since world since)
prefixes_texts name world since is spellable =
    all_of_set IsPathText (prefixes_told (now world).generation since (now world).sequence world.past)
    (told_texts (commits_of world) (now world).generation since (now world).sequence world.opening world.past spellable.changes is.legal.1)

-- ---- worlds

-- a mount of a commit, with no event, is spellable
pub spellable_opens : (held : List Held) (generation limit : ℕ) (root : Id) (files : FileMap) → IsClosed held → AreSmall held → generation < 2 ^ 64 → IsIdText root
    → files ≡ files_of (commit_map held root) → IsSpellable (opened held generation limit root files)
spellable_opens held generation limit root files closed small fits id is =
    let texts : AreTexts files = subst AreTexts (sym is) (held_texts (commit_map held) (commits_texts held closed small) root) in
    record { small = small; opening = record { generation = fits; sequence = omega arith; root = id; files = texts }; changes = tt }

-- and so it is with one more event
pub spellable_grows : (world : WorldState) (event : Event) → IsSpellable world → IsChange event.change → IsSpellable (record world { past = event ∷ world.past })
spellable_grows world event is change = record { small = is.small; opening = is.opening; changes = (change, is.changes) }

-- over other objects within the limits
spellable_over : (world : WorldState) (held : List Held) → IsSpellable world → AreSmall held → IsSpellable (over_held world held)
spellable_over world held is small = record { small = small; opening = is.opening; changes = is.changes }

pub spellable_of_import : (name : Namer) (world : WorldState) (objects : List Object) (held : List Held) → IsSpellable world → AreObjects objects
    → import_outcome name objects world.held ≡ Ok held → IsSpellable (over_held world held)
spellable_of_import name world objects held is are e = spellable_over world held is (imports_small name objects world.held held is.small are e)
