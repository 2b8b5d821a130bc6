-- One turn of the walk: what it knows of the next pair, and what is known after it.
use Rattle.std.proofs.Common.{◌≡◌, ℕ, ◌++◌, Bool, true, false, List, [], ◌∷◌, Some, None, refl, sym, ap, ◌∙◌, append_assoc}
use Rattle.std.proofs.lemmas.List.{append-nil}
use Rattle.std.specs.Prelude.{filter}
use Rattle.eden_ids.specs.Paths.{IsPath, lies_below}
use Rattle.eden_objects.specs.Objects.{Held}
use Rattle.eden_treediff.specs.Merges.{merge_rows}
use Rattle.eden_treediff.specs.internal.Merging.{Rests}
use Rattle.eden_treediff.specs.internal.Pairs.{Directory, Next, directory, is_changed, name_of, next_pair}
use Rattle.eden_treediff.specs.internal.Walks.{side_rows, wanted_behind}
use Rattle.eden_treediff.proofs.Legal.{AreLegal, BothLegal, entered_legal, found_legal, legal_after}
use Rattle.eden_treediff.proofs.Settling.{other_from}
use Rattle.eden_treediff.proofs.Steps.{IsWay, Step, behind_below, directory_is, here, is_next, merge_entries, none_wanted, one_file, one_more, unchanged, wanted-append, way_goes_on}

-- What the walk knows where these entries are left, which are those of trees: what is to be found beside what was found, and whether all so far is the same.
pub record Stands (held : List Held) (m n : ℕ) (test : List ℕ → Bool) (front : List ℕ) (target done whole : List (List ℕ)) (same : Bool) (rests : Rests) : Type 0 where
  pub found : target ≡ done ++ wanted_behind test front (merge_entries held rests.0 rests.1)
  pub alike : same ≡ true → whole ≡ merge_entries held rests.0 rests.1
  pub way : IsWay held m n rests.0 rests.1
  pub first_legal : AreLegal held front rests.0
  pub second_legal : AreLegal held front rests.1

-- The next pair, and what the walk knows before it.
pub record Turn (held : List Held) (m n : ℕ) (test : List ℕ → Bool) (front : List ℕ) (target done whole : List (List ℕ)) (same : Bool) (next : Next) : Type 0 where
  pub rests : Rests
  pub stands : Stands held m n test front target done whole same rests
  pub is : Some next ≡ next_pair rests.0 rests.1

module _ {held : List Held} {m n : ℕ} {test : List ℕ → Bool} {front : List ℕ} {target done whole : List (List ℕ)} {same : Bool} {next : Next}
    (turn : Turn held m n test front target done whole same next) where
  pub step : Step held m n turn.rests.0 turn.rests.1 next
  step = record { way = turn.stands.way; is = turn.is }

  -- after the pair, whose wanted paths were found
  pub goes_on : {new : List (List ℕ)} {now : Bool} → new ≡ done ++ wanted_behind test front (here held next) → (now ≡ true → (same ≡ true) × (here held next ≡ []))
      → Stands held m n test front target new whole now (next.2, next.3)
  goes_on {new} more alike =
      let rest : List (List ℕ) = merge_entries held next.2 next.3 in
      record {
        found =
            turn.stands.found
            ∙ ap (λ ps. done ++ wanted_behind test front ps) (one_more step)
            ∙ ap (λ ps. done ++ ps) (wanted-append test front (here held next) rest)
            ∙ sym (append_assoc done (wanted_behind test front (here held next)) (wanted_behind test front rest))
            ∙ ap (λ ps. ps ++ wanted_behind test front rest) (sym more);
        alike = λ yes. let so = alike yes in turn.stands.alike so.0 ∙ one_more step ∙ ap (λ ps. ps ++ rest) so.1;
        way = way_goes_on step;
        first_legal = legal_after held front turn.rests.0 next.0 next.2 (is_next step).0 turn.stands.first_legal;
        second_legal = legal_after held front turn.rests.1 next.1 next.3 (is_next step).1 turn.stands.second_legal;
      }

  -- nothing is changed
  pub goes_on_same : is_changed next.0 next.1 ≡ false → Stands held m n test front target done whole same (next.2, next.3)
  goes_on_same alike =
      let none = unchanged step alike in
      goes_on (sym (ap (λ ps. done ++ wanted_behind test front ps) none ∙ append-nil done)) (λ yes. (yes, none))

  -- a file is changed, and was found if it is wanted
  pub goes_on_file : {new : List (List ℕ)} {bytes name : List ℕ} → is_changed next.0 next.1 ≡ true → directory next.0 next.1 ≡ None → bytes ≡ front → name ≡ name_of next.0 next.1
      → new ≡ done ++ wanted_behind test bytes (name ∷ []) → Stands held m n test front target new whole false (next.2, next.3)
  goes_on_file changed file entered named more = goes_on (rw (one_file step changed file, ← entered, ← named) more) (λ yes. absurd cc)

  -- a file that is found has a path
  pub found_is_path : directory next.0 next.1 ≡ None → IsPath (front ++ name_of next.0 next.1)
  found_is_path = found_legal held front turn.rests.0 turn.rests.1 next (is_next step) turn.stands.first_legal turn.stands.second_legal

  -- a directory was walked
  pub goes_on_inside : {d : Directory} {inner : List ℕ} {new : List (List ℕ)} {now : Bool} → directory next.0 next.1 ≡ Some d → inner ≡ front ++ d.0 ++ 47 ∷ []
      → new ≡ done ++ wanted_behind test inner (merge_rows (side_rows held d.1) (side_rows held d.2)) → (now ≡ true → (same ≡ true) × (here held next ≡ []))
      → Stands held m n test front target new whole now (next.2, next.3)
  goes_on_inside {d} dir entered more =
      let inside : List (List ℕ) = merge_rows (side_rows held d.1) (side_rows held d.2) in
      goes_on (more
      ∙ ap (λ p. done ++ wanted_behind test p inside) entered
      ∙ ap (λ ps. done ++ filter test ps) (behind_below front d.0 inside)
      ∙ sym (ap (λ ps. done ++ wanted_behind test front ps) (directory_is step dir).0))

  -- a directory below which nothing is wanted was left out
  pub goes_on_outside : {d : Directory} {bytes : List ℕ} → directory next.0 next.1 ≡ Some d → bytes ≡ front → ((path : List ℕ) → lies_below path (bytes ++ d.0) ≡ true → test path ≡ false)
      → Stands held m n test front target done whole false (next.2, next.3)
  goes_on_outside {d} dir entered outside =
      let none = none_wanted test (front ++ d.0) (merge_rows (side_rows held d.1) (side_rows held d.2)) (rw entered at outside) in
      goes_on_inside dir refl (sym (ap (λ ps. done ++ ps) none ∙ append-nil done)) (λ yes. absurd cc)

  -- a directory that is entered has the paths of trees
  pub inner_legal : {d : Directory} {inner : List ℕ} → directory next.0 next.1 ≡ Some d → inner ≡ front ++ d.0 ++ 47 ∷ [] → BothLegal held inner d
  inner_legal {d} {inner} =
      entered_legal held front inner turn.rests.0 turn.rests.1 next d turn.stands.way.0 turn.stands.way.1 (is_next step) turn.stands.first_legal turn.stands.second_legal

  -- a pair with paths decides that the sides are not the same
  pub goes_on_other : {P : Type 0} → (same ≡ false → P → whole ≡ [] → ⊥) → (P → here held next ≡ [] → ⊥) → P → whole ≡ [] → ⊥
  goes_on_other {P} =
      other_from P whole (merge_entries held turn.rests.0 turn.rests.1) (here held next) (merge_entries held next.2 next.3) same (one_more step) turn.stands.alike
