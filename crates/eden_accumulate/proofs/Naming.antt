-- What a mount names since a position, in each world of which it is the present.
use Rattle.std.proofs.Common.{◌≡◌, ℕ, List, map, None, refl, sym, ap, subst, ◌∙◌}
use Rattle.eden_globs.specs.Filters.{Patterns}
use Rattle.eden_ids.specs.FileMaps.{FileMap}
use Rattle.eden_objects.specs.Commits.{commit_map}
use Rattle.eden_journal.specs.declared.run.Run.{Run}
use Rattle.eden_journal.specs.Runs.{after}
use Rattle.eden_history.specs.declared.mark.Marked.{Marked}
use Rattle.eden_history.specs.declared.position.Position.{Position}
use Rattle.eden_history.specs.Worlds.{WorldState, now}
use Rattle.eden_history.specs.Back.{CanGoBack, places, was_all}
use Rattle.eden_history.specs.Changes.{prefixes_since}
use Rattle.eden_history.specs.Marks.{admitted}
use Rattle.eden_history.specs.Names.{named_each}
use Rattle.eden_history.specs.Rows.{row_since}
use Rattle.eden_ranges.specs.declared.ranges.Range.{Range}
use Rattle.eden_ranges.specs.Since.{log_status, range_of}
use Rattle.eden_ranges.specs.WorldRanges.{changes_since, roots_since, unclean_since}
use Rattle.eden_ranges.proofs.Bridge.{ranges_are_since, refusals_are_the_worlds}
use Rattle.eden_ranges.proofs.WayBack.{LeadsBack, leads_back}
use Rattle.eden_names.specs.Naming.{named_by}
use Rattle.eden_names.proofs.Named.{named_is}
use Rattle.eden_accumulate.specs.Mounts.{State, StandsFor, files_of}
use Rattle.eden_accumulate.specs.Ranges.{EndsNow, IsStatus}

-- runs that were taken of the mount's journal, for a position that is not refused
pub record Taken (mount : State) (position : Position) (range : Range) (recent : List Run) : Type 0 where
  pub good : IsStatus mount position None
  pub from : range.from ≡ position.sequence
  pub runs : after position.sequence recent ≡ after position.sequence mount.log.held

good_log : (mount : State) (position : Position) (world : WorldState) → StandsFor mount world → IsStatus mount position None → log_status mount.log position ≡ None
good_log mount position world h good = refusals_are_the_worlds world h.is_world.1.legal mount.log h.log position ∙ good world h

leads : (mount : State) (position : Position) (world : WorldState) → StandsFor mount world → IsStatus mount position None → LeadsBack world mount.log position.sequence
leads mount position world h good = leads_back world h.is_world h.spellable mount.log h.log position (good_log mount position world h good)

same_runs : (mount : State) (position : Position) (range : Range) (recent : List Run) → Taken mount position range recent
    → map (λ (run : Run). run.what) (after range.from recent) ≡ map (λ (run : Run). run.what) (after position.sequence mount.log.held)
same_runs mount position range recent taken =
    ap (λ n. map (λ (run : Run). run.what) (after n recent)) taken.from ∙ ap (map (λ (run : Run). run.what)) taken.runs

-- the way back is open
pub way_open : (mount : State) (position : Position) (range : Range) (recent : List Run) → ((world : WorldState) × StandsFor mount world) → Taken mount position range recent
    → CanGoBack (commit_map mount.held) (map (λ (run : Run). run.what) (after range.from recent)) (places (files_of mount))
way_open mount position range recent stands taken =
    let world = stands.0 in
    let h = stands.1 in
    subst (λ deltas. CanGoBack (commit_map mount.held) deltas (places (files_of mount))) (sym (same_runs mount position range recent taken))
    (subst (λ files. CanGoBack (commit_map mount.held) (map (λ (run : Run). run.what) (after position.sequence mount.log.held)) (places files)) (sym h.files)
    (subst (λ held. CanGoBack (commit_map held) (map (λ (run : Run). run.what) (after position.sequence mount.log.held)) (places (now world).files)) (sym h.held)
    (leads mount position world h taken.good).can))

-- what a range says of a world
pub record IsOf (range : Range) (world : WorldState) (since : ℕ) : Type 0 where
  pub changes : range.changes ≡ changes_since world since
  pub prefixes : range.prefixes ≡ prefixes_since world since
  pub unclean : range.unclean ≡ unclean_since world since
  pub roots : range.roots ≡ roots_since world since

-- the files before, and what was named by them
pub record IsNamed (mount : State) (wanted : Patterns) (range : Range) (recent : List Run) (marked : List Marked) : Type 0 where
  pub before : FileMap
  pub were : (path : List ℕ) → places before path ≡ was_all (commit_map mount.held) (map (λ (run : Run). run.what) (after range.from recent)) (places (files_of mount)) path
  pub list : marked ≡ admitted wanted (named_by mount.held range before (files_of mount))

pub names_are : (mount : State) (position : Position) (range : Range) (recent : List Run) (wanted : Patterns) (marked : List Marked)
    → Taken mount position range recent → EndsNow mount range → ((world : WorldState) → StandsFor mount world → IsOf range world position.sequence)
    → IsNamed mount wanted range recent marked
    → (world : WorldState) → StandsFor mount world → marked ≡ admitted wanted (named_each world position.sequence)
names_are mount position range recent wanted marked taken ends of named world h =
    named.list
    ∙ ap (admitted wanted)
    ((λ i. named_by (h.held i) (whole i) named.before (h.files i))
    ∙ named_is world h.is_world.1.legal mount.log h.log position good named.before were)
  where
    good : log_status mount.log position ≡ None
    good = good_log mount position world h taken.good

    is : IsOf range world position.sequence
    is = of world h

    whole : range ≡ range_of mount.log position.sequence
    whole =
        (λ i. record { from = taken.from i; to = ends world h i; changes = is.changes i; prefixes = is.prefixes i; unclean = is.unclean i; roots = is.roots i })
        ∙ sym (ranges_are_since world h.is_world.1.legal mount.log h.log position good)

    were : (path : List ℕ) → places named.before path ≡ places (row_since world position.sequence).files path
    were path =
        named.were path
        ∙ (λ i. was_all (commit_map (h.held i)) (same_runs mount position range recent taken i) (places (h.files i)) path)
        ∙ (leads mount position world h taken.good).was path
