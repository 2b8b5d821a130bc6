-- The deltas after a number lead back from a world's present to the row with that number, and so do the runs that a journal holds.
use Rattle.std.proofs.Common.{◌≡◌, ℕ, ◌-◌, ◌<◌, ◌≤◌, Bool, true, false, List, [], ◌∷◌, ◌++◌, map, take, None, is_some, refl, sym, ap, subst, ◌∙◌, arith}
use Rattle.std.specs.Prelude.{IsSome, if◌then◌else◌}
use Rattle.std.specs.List.{AllByRecursion}
use Rattle.eden_ids.specs.FileMaps.{FileMap, IsFileMap, same_path}
use Rattle.eden_ids.specs.Texts.{AreTexts}
use Rattle.eden_objects.proofs.CommitLaws.{file_maps}
use Rattle.eden_objects.proofs.CommitTexts.{commits_texts}
use Rattle.eden_journal.specs.declared.delta.Delta.{Delta}
use Rattle.eden_journal.specs.declared.delta.Delta.TheVariants.{File}
use Rattle.eden_journal.specs.Deltas.{changed}
use Rattle.eden_journal.specs.Runs.{after}
use Rattle.eden_journal.specs.Histories.{Log, StandsFor}
use Rattle.eden_journal.proofs.Merged.{folded, what_of, TakesAgain}
use Rattle.eden_journal.proofs.Since.{since_says}
use Rattle.eden_history.specs.declared.position.Position.{Position}
use Rattle.eden_history.specs.Worlds.{Row, Event, Commits, WorldState, commits_of, last_row, now}
use Rattle.eden_history.specs.Legal.{AreMade, IsSomeWorld}
use Rattle.eden_history.specs.Rows.{row_at, row_since}
use Rattle.eden_history.specs.Spellable.{IsChange, IsSpellable}
use Rattle.eden_history.specs.Recorded.{delta_of, starts}
use Rattle.eden_history.specs.Changes.{is_in_range}
use Rattle.eden_history.specs.Back.{CanGoBack, IsMet, IsTree, Need, Places, need_of, needs, places, was, was_all}
use Rattle.eden_history.specs.Back.Need.{Tree}
use Rattle.eden_history.proofs.Back.{met_event, tree_of, was_event}
use Rattle.eden_history.proofs.LegalFiles.{made_fits}
use Rattle.eden_history.proofs.Rooted.{last_rooted}
use Rattle.eden_history.proofs.Spelled.{row_texts}
use Rattle.eden_ranges.specs.Histories.{history_of}
use Rattle.eden_ranges.specs.Since.{log_status}
use Rattle.eden_ranges.proofs.Along.{along, newer, none_newer, one_newer}
use Rattle.eden_ranges.proofs.Bridge.{Since, since_good}
use Rattle.eden_ranges.proofs.Newest.{good, held_newest}
use Rattle.eden_ranges.proofs.SinceWorld.{row_before, row_here}

-- ---- by the events

-- the deltas after a number lead from the last row back to the row with it
record IsBack (commits : Commits) (generation since : ℕ) (opening : Row) (past : List Event) : Type 0 where
  can : CanGoBack commits (newer opening past since) (places (last_row opening past).files)
  was : (p : List ℕ) → was_all commits (newer opening past since) (places (last_row opening past).files) p ≡ places (row_at generation since opening past).files p

-- each row has the files of a tree, over a commit
abbrev AreTrees : Commits → Row → Type 0
AreTrees commits opening =
    (past : List Event) → AreMade commits opening past → AllByRecursion (λ event. IsChange event.change) past
    → IsTree (places (last_row opening past).files) × IsSome (commits (last_row opening past).root)

all_both : {X : Type 0} (Holds : X → Type 0) (xs ys : List X) → AllByRecursion Holds xs → AllByRecursion Holds ys → AllByRecursion Holds (xs ++ ys)
all_both Holds [] ys first second = second
all_both Holds (x ∷ xs) ys first second = (first.0, all_both Holds xs ys first.1 second)

late_back : (commits : Commits) (generation since : ℕ) (opening : Row) → AreTrees commits opening
    → (past : List Event) → AreMade commits opening past → (last_row opening past).generation ≡ generation → (last_row opening past).sequence ≡ since
    → AllByRecursion (λ event. IsChange event.change) past → IsBack commits generation since opening past
late_back commits generation since opening trees past made g at are =
    let none = none_newer opening past since (omega arith) in
    record {
      can = subst (λ ds. CanGoBack commits ds (places (last_row opening past).files)) (sym none) ((trees past made are).0, tt);
      was = λ p.
          ap (λ ds. was_all commits ds (places (last_row opening past).files) p) none
          ∙ sym (ap (λ (row : Row). places row.files p) (row_here generation since opening past g at));
    }

more_back : (commits : Commits) (generation since : ℕ) (opening : Row) → AreTrees commits opening
    → (event : Event) (past : List Event) → AreMade commits opening (event ∷ past) → starts event.change ≡ false → since < event.row.sequence
    → (AllByRecursion (λ e. IsChange e.change) past → IsBack commits generation since opening past)
    → AllByRecursion (λ e. IsChange e.change) (event ∷ past) → IsBack commits generation since opening (event ∷ past)
more_back commits generation since opening trees event past made plain lt older are =
    let next = one_newer commits opening past event since made plain lt in
    let same = was_event commits opening past event made plain in
    let back = older are.1 in
    let before = trees past made.1 are.1 in
    let here = trees (event ∷ past) made are in
    record {
      can = subst (λ ds. CanGoBack commits ds (places event.row.files)) (sym next)
          (all_both (IsMet commits) (need_of (delta_of (last_row opening past) event) (places event.row.files)) _
          (met_event commits opening past event made before.0 here.0 before.1)
          (subst (CanGoBack commits (newer opening past since)) (sym same) back.can));
      was = λ p.
          ap (λ ds. was_all commits ds (places event.row.files) p) next
          ∙ ap (λ there. was_all commits (newer opening past since) there p) same
          ∙ back.was p
          ∙ sym (ap (λ (row : Row). places row.files p) (row_before generation since opening event past lt));
    }

-- ---- by the runs

abbrev with_was : Commits → Delta → (Places → Places) → Places → Places
with_was commits what older there = older (was commits what there)

abbrev with_needs : Commits → Delta → (Places → List Need) → Places → List Need
with_needs commits what older there = need_of what there ++ older (was commits what there)

abbrev last_need : Places → List Need
last_need there = Tree there ∷ []

was-folded : (commits : Commits) (ds : List Delta) (there : Places) → was_all commits ds there ≡ folded (with_was commits) (λ t. t) ds there
was-folded commits [] there = refl
was-folded commits (what ∷ older) there = was-folded commits older (was commits what there)

needs-folded : (commits : Commits) (ds : List Delta) (there : Places) → needs commits ds there ≡ folded (with_needs commits) last_need ds there
needs-folded commits [] there = refl
needs-folded commits (what ∷ older) there = ap (λ more. need_of what there ++ more) (needs-folded commits older (was commits what there))

-- a file that is written again is there before as it is after
twice : (commits : Commits) (path : List ℕ) (there : Places)
    → was commits (File (changed path)) (was commits (File (changed path)) there) ≡ was commits (File (changed path)) there
twice commits path there = λ i p. by (same_path p path) (there p) i
  where
    by : (b x : Bool) → (if b then true else if b then true else x) ≡ (if b then true else x)
    by true x = refl
    by false x = refl

again-was : (commits : Commits) → TakesAgain (Places → Places) (with_was commits)
again-was commits path older = λ i there. older (twice commits path there i)

again-needs : (commits : Commits) → TakesAgain (Places → List Need) (with_needs commits)
again-needs commits path older = λ i there. older (twice commits path there i)

-- ---- of a world

-- the runs that are held after a number lead back to the row with it
pub record LeadsBack (world : WorldState) (log : Log) (since : ℕ) : Type 0 where
  pub can : CanGoBack (commits_of world) (map (λ run. run.what) (after since log.held)) (places (now world).files)
  pub was : (p : List ℕ) → was_all (commits_of world) (map (λ run. run.what) (after since log.held)) (places (now world).files) p ≡ places (row_since world since).files p

trees_of : (world : WorldState) → IsSomeWorld world → IsSpellable world → AreTrees (commits_of world) world.opening
trees_of world is spelled past made are =
    let commits = commits_of world in (
      tree_of (last_row world.opening past).files
          (made_fits commits world.opening past (file_maps world.held is.1.closed) is.1.legal.0 made)
          (row_texts commits world.opening past (commits_texts world.held is.1.closed spelled.small) spelled.opening are made).files,
      last_rooted commits world.opening past made is.1.begins,
    )

pub leads_back : (world : WorldState) → IsSomeWorld world → IsSpellable world → (log : Log) → StandsFor log (history_of world) → (position : Position)
    → log_status log position ≡ None → LeadsBack world log position.sequence
leads_back world is spelled log s position none = record {
  can = subst (AllByRecursion (IsMet commits))
      (needs-folded commits deltas there
      ∙ (λ i. runs (with_needs commits) last_need (again-needs commits) i there)
      ∙ sym (needs-folded commits held there)) back.can;
  was = λ p.
      (λ i. (was-folded commits held there
      ∙ sym (λ j. runs (with_was commits) (λ t. t) (again-was commits) j there)
      ∙ sym (was-folded commits deltas there)) i p)
      ∙ back.was p;
}
  where
    since : ℕ
    since = position.sequence

    commits : Commits
    commits = commits_of world

    there : Places
    there = places (now world).files

    deltas : List Delta
    deltas = newer world.opening world.past since

    held : List Delta
    held = map what_of (after since log.held)

    in_range : Since world log since
    in_range = since_good world is.1.legal log s position none

    runs : {X : Type 0} (with : Delta → X → X) (last : X) → TakesAgain X with → folded with last deltas ≡ folded with last held
    runs with last again =
        let well = good log position none in
        ap (folded with last) (sym in_range.same ∙ held_newest log (history_of world) since s well.low)
        ∙ since_says with last again log (history_of world) s since well.low well.high

    back : IsBack commits (now world).generation since world.opening world.past
    back =
        along commits (now world).generation since (now world).sequence world.opening
        (λ past. AllByRecursion (λ event. IsChange event.change) past → IsBack commits (now world).generation since world.opening past)
        (late_back commits (now world).generation since world.opening (trees_of world is spelled))
        (λ event past made plain counts lt older. more_back commits (now world).generation since world.opening (trees_of world is spelled) event past made plain lt older)
        world.past is.1.legal.1 in_range.low in_range.high (omega arith) refl spelled.changes
