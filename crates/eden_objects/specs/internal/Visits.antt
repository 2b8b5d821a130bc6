-- What a walk over files does with them, as its visit returns and leaves it.
use Rattle.std.specs.Prelude.{◌≡◌, true, List, [], ◌++◌, filter, Result, Ok, Err}
use Rattle.std.specs.List.{list_any}
use Rattle.std.specs.Result.{is_err}
use Rattle.eden_ids.specs.declared.memory.NoMemory.{NoMemory}
use Rattle.eden_globs.specs.Filters.{admits}
use Rattle.eden_objects.specs.declared.list.Listing.{Listing}
use Rattle.eden_objects.specs.declared.search.Found.{Found}
use Rattle.eden_objects.specs.Commits.{Row}

-- a visit of no files changes nothing; one of some files and then of others is one of
-- them all; and one that stopped stays so, whatever files follow
pub record IsVisit {V E : Type 0} (gives : V → List Row → Result (Unit {0}) E → V → Type 0) : Type 0 where
  pub nothing : (visit : V) → gives visit [] (Ok tt) visit
  pub goes_on : (old visit new : V) (rows more : List Row) (result : Result (Unit {0}) E) → gives old rows (Ok tt) visit → gives visit more result new → gives old (rows ++ more) result new
  pub stopped : (old new : V) (rows more : List Row) (stop : E) → gives old rows (Err stop) new → gives old (rows ++ more) (Err stop) new

-- the admitted files are added, or memory ran out
abbrev pub IsListing : Listing → List Row → Result (Unit {0}) NoMemory → Listing → Type 0
IsListing old rows (Ok done) new = (new.filter.now ≡ old.filter.now) × (new.rows.items ≡ old.rows.items ++ filter (λ row. admits old.filter.now row.0) rows)
IsListing old rows (Err refused) new = Unit {0}

-- it stopped exactly if there is a file
abbrev pub IsSearch : List Row → Result (Unit {0}) Found → Type 0
IsSearch rows result = is_err result ≡ list_any (λ row. true) rows
