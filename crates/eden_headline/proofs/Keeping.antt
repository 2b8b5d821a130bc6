-- What a world has had it goes on to have had.
use Rattle.std.proofs.Common.{◌≡◌, ℕ, ◌<◌, ◌≤◌, ◌⊎◌, inl, inr, List, [], ◌∷◌, Option, refl, subst, arith}
use Rattle.eden_ids.specs.declared.content.Content.{Content}
use Rattle.eden_ids.specs.FileMaps.{file_at}
use Rattle.eden_objects.specs.Objects.{Held}
use Rattle.eden_history.specs.Worlds.{Row, Event, WorldState, commits_of, last_row, now, position_of}
use Rattle.eden_history.specs.Imports.{over_held}
use Rattle.eden_history.specs.Legal.{IsLegal}
use Rattle.eden_history.specs.Rows.{IsPlace, IsRow, IsRowOf, Stands}
use Rattle.eden_history.specs.declared.position.Position.{Position}
use Rattle.eden_history.proofs.Following.{IsNotAfter}
use Rattle.eden_history.proofs.Growing.{grown}
use Rattle.eden_history.proofs.Kept.{itself, none_after}

-- ---- a world goes on

-- what was in a row of the world is in one of the next world, and what was its place is one of the next
pub record GoesOn (world next : WorldState) : Type 0 where
  pub stands : (generation number : ℕ) (p : List ℕ) (file : Option Content) → Stands world generation number p file → Stands next generation number p file
  pub place : (position : Position) → IsPlace world position → IsPlace next position

pub on_same : (world : WorldState) → GoesOn world world
on_same world = record { stands = λ generation number p file is. is; place = λ position is. is }

pub on_grown : (world : WorldState) (event : Event) → GoesOn world (grown world event)
on_grown world event =
    record {
      stands = λ generation number p file is. record { row = is.row; is_row = inr is.is_row; alike = is.alike; after = is.after; value = is.value };
      place = λ position is. record { row = is.row; is_row = inr is.is_row; is = is.is };
    }

-- over other objects the rows are the same
pub on_over : (world : WorldState) (held : List Held) → GoesOn world (over_held world held)
on_over world held =
    record {
      stands = λ generation number p file is. record { row = is.row; is_row = is.is_row; alike = is.alike; after = is.after; value = is.value };
      place = λ position is. record { row = is.row; is_row = is.is_row; is = is.is };
    }

-- ---- the present row

pub now_is_row : (world : WorldState) → IsRow world (now world)
now_is_row world = by world.opening world.past
  where
    by : (opening : Row) (past : List Event) → IsRowOf opening past (last_row opening past)
    by opening [] = refl
    by opening (event ∷ past) = inl refl

pub now_is_place : (world : WorldState) → IsPlace world (position_of (now world))
now_is_place world = record { row = now world; is_row = now_is_row world; is = refl }

-- what is at the path now
pub stands_now : (world : WorldState) (p : List ℕ) → Stands world (now world).generation (now world).sequence p (file_at (now world).files p)
stands_now world p = record { row = now world; is_row = now_is_row world; alike = refl; after = omega arith; value = refl }

-- a place is not after the present
pub place_in_time : (world : WorldState) (position : Position) → IsLegal world → IsPlace world position
    → (position.generation < (now world).generation) ⊎ ((position.generation ≡ (now world).generation) × (position.sequence ≤ (now world).sequence))
place_in_time world position legal is =
    by (none_after (commits_of world) (now world).generation (now world).sequence world.opening world.past is.row legal.1 (itself (now world)) is.is_row)
  where
    by : IsNotAfter (now world).generation (now world).sequence is.row
        → (position.generation < (now world).generation) ⊎ ((position.generation ≡ (now world).generation) × (position.sequence ≤ (now world).sequence))
    by (inl lt) = inl (subst (λ x. x.generation < (now world).generation) is.is lt)
    by (inr both) = inr (subst (λ x. (x.generation ≡ (now world).generation) × (x.sequence ≤ (now world).sequence)) is.is both)
