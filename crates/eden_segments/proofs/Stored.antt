-- The rows of segments, where one is taken from the others.
use Rattle.std.proofs.Common.{◌≡◌, ◌∙◌, sym, ap, ℕ, Bool, suc, ◌<◌, ◌+◌, subst, List, [], ◌∷◌, ◌++◌, append_assoc, add-one, take, drop, drop-cons, length, get_or, map, reverse}
use Rattle.std.specs.List.{flat_map}
use Rattle.std.proofs.lemmas.List.{take-append-drop}
use Rattle.std.proofs.lemmas.List.Concat.{flat_map-append}
use Rattle.std.proofs.lemmas.List.Folds.{flat_map-map}
use Rattle.std.specs.Arc.{arc_value}
use Rattle.std.specs.Map.{lookup}
use Rattle.std.specs.Option.{option_or}
use Rattle.std.specs.declared.sync.Arc.{Arc}
use Rattle.eden_ids.specs.declared.id.Id.{Id}
use Rattle.eden_segments.proofs.Distinct.{distinct_earlier, lookup-append}
use Rattle.eden_segments.specs.Tables.{AreDistinct}
use Rattle.eden_segments.specs.internal.Segments.{Frozen, frozen_rows, stored}

module _ {V Z : Type 0} where
  -- the first of the segments from a place on
  pub next_segment : (frozen : Frozen V Z) (place : ℕ) (segment : Arc (List (Id × V)) Z) → place < length frozen
      → segment ≡ get_or frozen place segment → drop place frozen ≡ segment ∷ drop (place + 1) frozen
  next_segment frozen place segment within is =
      rw add-one (drop-cons frozen place segment within ∙ ap (λ first. first ∷ drop (suc place) frozen) (sym is))

  -- the segments from a place on are after those before it
  pub split_at : (place : ℕ) (frozen : Frozen V Z) (newest : List (Id × V))
      → frozen_rows (take place frozen) ++ stored (drop place frozen) newest ≡ stored frozen newest
  split_at place frozen newest =
      sym (append_assoc (frozen_rows (take place frozen)) (frozen_rows (drop place frozen)) newest)
      ∙ ap (λ rows. rows ++ newest) (sym (flat_map-append arc_value (take place frozen) (drop place frozen)))
      ∙ ap (λ segments. stored segments newest) (take-append-drop place frozen)

  -- a segment is asked, and then those after it
  pub asked : (test : Id → Bool) (frozen : Frozen V Z) (place : ℕ) (segment : Arc (List (Id × V)) Z) → place < length frozen
      → segment ≡ get_or frozen place segment
      → option_or (lookup test (arc_value segment)) (lookup test (frozen_rows (drop (place + 1) frozen))) ≡ lookup test (frozen_rows (drop place frozen))
  asked test frozen place segment within is =
      sym (lookup-append test (arc_value segment) (frozen_rows (drop (place + 1) frozen)))
      ∙ ap (λ segments. lookup test (frozen_rows segments)) (sym (next_segment frozen place segment within is))

  -- a segment's rows are taken after others, and leave those after it
  pub taken : (rows : List (Id × V)) (frozen : Frozen V Z) (newest : List (Id × V)) (place : ℕ) (segment : Arc (List (Id × V)) Z) → place < length frozen
      → segment ≡ get_or frozen place segment
      → (rows ++ arc_value segment) ++ stored (drop (place + 1) frozen) newest ≡ rows ++ stored (drop place frozen) newest
  taken rows frozen newest place segment within is =
      append_assoc rows (arc_value segment) (stored (drop (place + 1) frozen) newest)
      ∙ ap (λ behind. rows ++ behind) (sym (append_assoc (arc_value segment) (frozen_rows (drop (place + 1) frozen)) newest))
      ∙ ap (λ segments. rows ++ stored segments newest) (sym (next_segment frozen place segment within is))

  -- so that each row that is taken has another id than those that are there
  pub taken_distinct : (rows more : List (Id × V)) (frozen : Frozen V Z) (newest : List (Id × V)) (place : ℕ) (segment : Arc (List (Id × V)) Z)
      → place < length frozen → segment ≡ get_or frozen place segment → more ≡ arc_value segment
      → rows ++ stored (drop place frozen) newest ≡ stored frozen newest → AreDistinct (reverse (stored frozen newest))
      → AreDistinct (reverse (rows ++ more))
  taken_distinct rows more frozen newest place segment within is more_is whole distinct =
      rw more_is
      (distinct_earlier (rows ++ arc_value segment) (stored (drop (place + 1) frozen) newest)
      (subst (λ all. AreDistinct (reverse all)) (sym (taken rows frozen newest place segment within is ∙ whole)) distinct))

  -- other owners of the same segments have the same rows
  pub copied : (these those : Frozen V Z) (none newest rows : List (Id × V)) → map arc_value these ≡ map arc_value those
      → none ≡ [] → newest ≡ [] → stored those newest ≡ rows → stored these none ≡ rows
  copied these those none newest rows same none_is newest_is is =
      ap (λ behind. stored these behind) (none_is ∙ sym newest_is)
      ∙ ap (λ front. front ++ newest)
      (sym (flat_map-map (λ front. front) arc_value these) ∙ ap (flat_map (λ front. front)) same ∙ flat_map-map (λ front. front) arc_value those)
      ∙ is
