-- The rows that a world has had, and the files in them.
use Rattle.std.specs.Prelude.{◌≡◌, ◌≤◌, ◌==◌, ◌&&◌, if◌then◌else◌, ◌⊎◌, ℕ, List, [], ◌∷◌, Option}
use Rattle.eden_ids.specs.declared.content.Content.{Content}
use Rattle.eden_ids.specs.FileMaps.{file_at}
use Rattle.eden_history.specs.declared.position.Position.{Position}
use Rattle.eden_history.specs.Worlds.{Row, Event, WorldState, now, position_of}

-- the row is the opening one, or the row after one of these events
abbrev pub IsRowOf : Row → List Event → Row → Type 0
IsRowOf opening [] row = row ≡ opening
IsRowOf opening (event ∷ past) row = (row ≡ event.row) ⊎ IsRowOf opening past row

-- the world has had this row
abbrev pub IsRow : WorldState → Row → Type 0
IsRow world row = IsRowOf world.opening world.past row

-- the row with a number of a generation, or the opening row
abbrev pub row_at : ℕ → ℕ → Row → List Event → Row
row_at generation number opening [] = opening
row_at generation number opening (event ∷ past) =
    if (event.row.generation == generation) && (event.row.sequence == number) then event.row else row_at generation number opening past

-- the row with a number of the present generation
abbrev pub row_since : WorldState → ℕ → Row
row_since world since = row_at (now world).generation since world.opening world.past

-- a row of the world has this position
pub record IsPlace (world : WorldState) (position : Position) : Type 0 where
  pub row : Row
  pub is_row : IsRow world row
  pub is : position_of row ≡ position

-- some row of a generation, at this number or a later one, has this file (or none) at the
-- path
pub record Stands (world : WorldState) (generation : ℕ) (number : ℕ) (path : List ℕ) (file : Option Content) : Type 0 where
  pub row : Row
  pub is_row : IsRow world row
  pub alike : row.generation ≡ generation
  pub after : number ≤ row.sequence
  pub value : file_at row.files path ≡ file
