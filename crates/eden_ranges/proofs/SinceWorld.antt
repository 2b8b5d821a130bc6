-- The renamed directories, the unclean paths and the roots of a journal's range are those of the world's events since a number.
use Rattle.std.proofs.Common.{◌≡◌, ℕ, ◌<◌, ◌≤◌, inr, Bool, true, false, cond, ◌&&◌, List, [], ◌∷◌, ◌++◌, map, reverse, refl, sym, ap, ◌∙◌, arith}
use Rattle.std.specs.Prelude.{◌==◌, filter, if◌then◌else◌}
use Rattle.std.specs.List.{flat_map}
use Rattle.std.proofs.lemmas.Bool.{eq-eqb, ne_eqb}
use Rattle.std.proofs.lemmas.List.{map-append, reverse-append, append-nil}
use Rattle.std.proofs.lemmas.List.Elements.{filter-append}
use Rattle.eden_ids.specs.declared.id.Id.{Id}
use Rattle.eden_journal.specs.FilesChanged.{FilesChanged}
use Rattle.eden_journal.specs.declared.delta.Delta.{Delta}
use Rattle.eden_journal.specs.declared.delta.Delta.TheVariants.{File, Root}
use Rattle.eden_history.specs.Worlds.{Row, Event, Commits, last_row}
use Rattle.eden_history.specs.Named.{moved_prefixes}
use Rattle.eden_history.specs.Outcome.{next_row}
use Rattle.eden_history.specs.Legal.{AreMade}
use Rattle.eden_history.specs.Rows.{row_at}
use Rattle.eden_history.specs.Changes.{events_in, is_in_range}
use Rattle.eden_history.specs.Recorded.{delta_of, files_by, moves_root, root_delta, start, starts, touches_of}
use Rattle.eden_history.proofs.Recording.{prefixes-by, root-prefixes}
use Rattle.eden_history.proofs.Steps.{Makes, is_made, plain-unclean}
use Rattle.eden_history.proofs.Following.{IsNotAfter}
use Rattle.eden_ranges.specs.Gathered.{left_by, prefixes_in, roots_by, unclean_in}
use Rattle.eden_ranges.proofs.Numbered.{none_counted}
use Rattle.eden_ranges.proofs.Along.{along, newer, none_newer, one_newer}
use Rattle.eden_ranges.proofs.Named.{plain_root}
use Rattle.std.proofs.Math.Bool.{and-false}

-- ---- the two kinds of events

delta_file : (before : Row) (event : Event) → moves_root event.change ≡ false → delta_of before event ≡ File (files_by event.change (touches_of before event))
delta_file before event e = ap (λ b. if b then root_delta before event else File (files_by event.change (touches_of before event))) e

delta_root : (before : Row) (event : Event) → moves_root event.change ≡ true → delta_of before event ≡ root_delta before event
delta_root before event e = ap (λ b. if b then root_delta before event else File (files_by event.change (touches_of before event))) e

-- one more event is the newest of those that count
counted_more : (generation since until : ℕ) (event : Event) (past : List Event) → is_in_range generation since until event.row ≡ true
    → events_in generation since until (event ∷ past) ≡ event ∷ events_in generation since until past
counted_more generation since until event past e = ap (λ b. cond b (event ∷ events_in generation since until past) (events_in generation since until past)) e

-- ---- lists of paths

-- the deltas after a number have the paths of the events
abbrev TellsPaths : (Delta → List (List ℕ)) → (Event → List (List ℕ)) → ℕ → ℕ → ℕ → Row → List Event → Type 0
TellsPaths told had generation since until opening past = flat_map told (newer opening past since) ≡ flat_map had (events_in generation since until past)

-- the delta of an event has the paths of the event
abbrev TellsEach : (Delta → List (List ℕ)) → (Event → List (List ℕ)) → Commits → Type 0
TellsEach told had commits = (before : Row) (event : Event) → Makes commits before event → told (delta_of before event) ≡ had event

late_paths : (told : Delta → List (List ℕ)) (had : Event → List (List ℕ)) (commits : Commits) (generation since until : ℕ) (opening : Row) (past : List Event)
    → AreMade commits opening past → (last_row opening past).generation ≡ generation → (last_row opening past).sequence ≡ since
    → TellsPaths told had generation since until opening past
late_paths told had commits generation since until opening past made g at =
    ap (flat_map told) (none_newer opening past since (omega arith))
    ∙ sym (ap (flat_map had)
    (none_counted commits generation since until opening past made (let late : IsNotAfter generation since (last_row opening past) = inr (g, omega arith) in late)))

more_paths : (told : Delta → List (List ℕ)) (had : Event → List (List ℕ)) (commits : Commits) → TellsEach told had commits
    → (generation since until : ℕ) (opening : Row) (event : Event) (past : List Event) → AreMade commits opening (event ∷ past)
    → starts event.change ≡ false → is_in_range generation since until event.row ≡ true → since < event.row.sequence
    → TellsPaths told had generation since until opening past → TellsPaths told had generation since until opening (event ∷ past)
more_paths told had commits each generation since until opening event past made plain counts lt older =
    ap (flat_map told) (one_newer commits opening past event since made plain lt)
    ∙ (λ i. each (last_row opening past) event (is_made commits (last_row opening past) event made.0) i ++ older i)
    ∙ sym (ap (flat_map had) (counted_more generation since until event past counts))

each_prefix : (commits : Commits) → TellsEach prefixes_in (λ event. event.prefixes) commits
each_prefix commits before event one = by (moves_root event.change) refl ∙ sym (λ i. (one.made i).prefixes)
  where
    by : (b : Bool) → moves_root event.change ≡ b → prefixes_in (delta_of before event) ≡ moved_prefixes event.change
    by true e = ap prefixes_in (delta_root before event e) ∙ sym (root-prefixes event.change e)
    by false e = ap prefixes_in (delta_file before event e) ∙ prefixes-by event.change (touches_of before event)

each_unclean : (commits : Commits) → TellsEach unclean_in (λ event. event.unclean) commits
each_unclean commits before event one = by (moves_root event.change) refl
  where
    by : (b : Bool) → moves_root event.change ≡ b → unclean_in (delta_of before event) ≡ event.unclean
    by true e = ap unclean_in (delta_root before event e)
    by false e =
        ap unclean_in (delta_file before event e)
        ∙ plain-unclean commits before event.change (next_row commits before event.change) e ∙ sym (λ i. (one.made i).unclean)

-- ---- roots

-- the roots by the deltas are those at the number and after each later change of the root
abbrev TellsRoots : ℕ → ℕ → ℕ → Row → List Event → Type 0
TellsRoots generation since until opening past =
    roots_by (last_row opening past).root (newer opening past since)
    ≡ (row_at generation since opening past).root
    ∷ map (λ event. event.row.root) (filter (λ event. moves_root event.change) (reverse (events_in generation since until past)))

lefts-none : left_by [] ≡ []
unfolding left_by
lefts-none = refl

lefts-file : (files : FilesChanged) (ds : List Delta) → left_by (File files ∷ ds) ≡ left_by ds
unfolding left_by
lefts-file files ds = refl

lefts-root : (before : Row) (event : Event) (ds : List Delta) → left_by (root_delta before event ∷ ds) ≡ left_by ds ++ before.root ∷ []
unfolding left_by
lefts-root before event ds = refl

-- the last row has the number
pub row_here : (generation since : ℕ) (opening : Row) (past : List Event) → (last_row opening past).generation ≡ generation → (last_row opening past).sequence ≡ since
    → row_at generation since opening past ≡ last_row opening past
row_here generation since opening [] g at = refl
row_here generation since opening (event ∷ past) g at =
    ap (λ b. if b && (event.row.sequence == since) then event.row else row_at generation since opening past) (eq-eqb event.row.generation generation g)
    ∙ ap (λ b. if b then event.row else row_at generation since opening past) (eq-eqb event.row.sequence since at)

-- a later row has not
pub row_before : (generation since : ℕ) (opening : Row) (event : Event) (past : List Event) → since < event.row.sequence
    → row_at generation since opening (event ∷ past) ≡ row_at generation since opening past
row_before generation since opening event past lt =
    ap (λ b. if (event.row.generation == generation) && b then event.row else row_at generation since opening past) (ne_eqb event.row.sequence since (λ e. omega arith))
    ∙ ap (λ b. if b then event.row else row_at generation since opening past) (and-false (event.row.generation == generation))

late_roots : (commits : Commits) (generation since until : ℕ) (opening : Row) (past : List Event) → AreMade commits opening past
    → (last_row opening past).generation ≡ generation → (last_row opening past).sequence ≡ since → TellsRoots generation since until opening past
late_roots commits generation since until opening past made g at =
    ap (roots_by (last_row opening past).root) (none_newer opening past since (omega arith))
    ∙ ap (λ ids. ids ++ (last_row opening past).root ∷ []) lefts-none
    ∙ sym (λ i. (row_here generation since opening past g at i).root
    ∷ map (λ event. event.row.root) (filter (λ event. moves_root event.change) (reverse
    (none_counted commits generation since until opening past made (let late : IsNotAfter generation since (last_row opening past) = inr (g, omega arith) in late) i))))

more_roots : (commits : Commits) (generation since until : ℕ) (opening : Row) (event : Event) (past : List Event) → AreMade commits opening (event ∷ past)
    → starts event.change ≡ false → is_in_range generation since until event.row ≡ true → since < event.row.sequence
    → TellsRoots generation since until opening past → TellsRoots generation since until opening (event ∷ past)
more_roots commits generation since until opening event past made plain counts lt older = by (moves_root event.change) refl
  where
    rest : List Event
    rest = events_in generation since until past

    roots : List Event → List Id
    roots events = map (λ event. event.row.root) (filter (λ event. moves_root event.change) events)

    next : newer opening (event ∷ past) since ≡ delta_of (last_row opening past) event ∷ newer opening past since
    next = one_newer commits opening past event since made plain lt

    -- the newest event comes last
    parted : (b : Bool) → moves_root event.change ≡ b
        → roots (reverse (events_in generation since until (event ∷ past))) ≡ roots (reverse rest) ++ map (λ event. event.row.root) (cond b (event ∷ []) [])
    parted b e =
        ap (λ events. roots (reverse events)) (counted_more generation since until event past counts)
        ∙ ap roots (reverse-append (event ∷ []) rest)
        ∙ ap (map (λ event. event.row.root)) (filter-append (λ event. moves_root event.change) (reverse rest) (event ∷ []))
        ∙ map-append (λ event. event.row.root) (filter (λ event. moves_root event.change) (reverse rest)) (cond (moves_root event.change) (event ∷ []) [])
        ∙ ap (λ c. roots (reverse rest) ++ map (λ event. event.row.root) (cond c (event ∷ []) [])) e

    before : row_at generation since opening (event ∷ past) ≡ row_at generation since opening past
    before = row_before generation since opening event past lt

    by : (b : Bool) → moves_root event.change ≡ b
        → roots_by event.row.root (newer opening (event ∷ past) since)
        ≡ (row_at generation since opening (event ∷ past)).root ∷ roots (reverse (events_in generation since until (event ∷ past)))
    by true e =
        ap (roots_by event.row.root) (next ∙ ap (λ d. d ∷ newer opening past since) (delta_root (last_row opening past) event e))
        ∙ ap (λ ids. ids ++ event.row.root ∷ []) (lefts-root (last_row opening past) event (newer opening past since))
        ∙ ap (λ ids. ids ++ event.row.root ∷ []) older
        ∙ sym (λ i. (before i).root ∷ parted true e i)
    by false e =
        let stays : event.row.root ≡ (last_row opening past).root =
        (λ i. ((is_made commits (last_row opening past) event made.0).made i).row.root) ∙ plain_root commits (last_row opening past) event.change e in
        ap (roots_by event.row.root) (next ∙ ap (λ d. d ∷ newer opening past since) (delta_file (last_row opening past) event e))
        ∙ (λ i. lefts-file (files_by event.change (touches_of (last_row opening past) event)) (newer opening past since) i ++ stays i ∷ [])
        ∙ older
        ∙ sym (λ i. (before i).root ∷ (parted false e ∙ append-nil (roots (reverse rest))) i)

-- ---- all events

paths_told : (told : Delta → List (List ℕ)) (had : Event → List (List ℕ)) (commits : Commits) → TellsEach told had commits
    → (generation since until : ℕ) (opening : Row) (past : List Event) → AreMade commits opening past
    → start opening past ≤ since → since ≤ (last_row opening past).sequence → (last_row opening past).sequence ≤ until
    → (last_row opening past).generation ≡ generation → TellsPaths told had generation since until opening past
paths_told told had commits each generation since until opening =
    along commits generation since until opening (TellsPaths told had generation since until opening)
    (late_paths told had commits generation since until opening) (more_paths told had commits each generation since until opening)

pub directories_told : (commits : Commits) (generation since until : ℕ) (opening : Row) (past : List Event) → AreMade commits opening past
    → start opening past ≤ since → since ≤ (last_row opening past).sequence → (last_row opening past).sequence ≤ until
    → (last_row opening past).generation ≡ generation → TellsPaths prefixes_in (λ event. event.prefixes) generation since until opening past
directories_told commits = paths_told prefixes_in (λ event. event.prefixes) commits (each_prefix commits)

pub unclean_told : (commits : Commits) (generation since until : ℕ) (opening : Row) (past : List Event) → AreMade commits opening past
    → start opening past ≤ since → since ≤ (last_row opening past).sequence → (last_row opening past).sequence ≤ until
    → (last_row opening past).generation ≡ generation → TellsPaths unclean_in (λ event. event.unclean) generation since until opening past
unclean_told commits = paths_told unclean_in (λ event. event.unclean) commits (each_unclean commits)

pub roots_told : (commits : Commits) (generation since until : ℕ) (opening : Row) (past : List Event) → AreMade commits opening past
    → start opening past ≤ since → since ≤ (last_row opening past).sequence → (last_row opening past).sequence ≤ until
    → (last_row opening past).generation ≡ generation → TellsRoots generation since until opening past
roots_told commits generation since until opening =
    along commits generation since until opening (TellsRoots generation since until opening)
    (late_roots commits generation since until opening) (more_roots commits generation since until opening)
