-- Listed paths and marks, woven into one list.
use Rattle.std.specs.Prelude.{ℕ, Bool, ◌&&◌, if◌then◌else◌, List, [], ◌∷◌, ◌++◌, Option, Some, None}
use Rattle.std.specs.Borrow.{Bor}
use Rattle.std.specs.declared.cmp.Ordering.{Ordering}
use Rattle.std.specs.declared.cmp.Ordering.TheVariants.{Less, Greater}
use Rattle.std.specs.FinMap.Entries.{by_order}
use Rattle.eden_globs.specs.Filters.{Patterns, admits}
use Rattle.eden_overlay.specs.Layers.{Mark, by_bytes}

-- a mark whose path is lent
abbrev pub pointed : Option (Bor (List ℕ) × Bool) → Option Mark
pointed None = None
pointed (Some mark) = Some (mark.0.now, mark.1)

-- how a listed path compares with a mark's; a missing one comes after any other
abbrev pub order_of : Option (List ℕ) → Option Mark → Option Ordering
order_of None None = None
order_of (Some path) None = Some Less
order_of None (Some mark) = Some Greater
order_of (Some path) (Some mark) = Some (by_bytes path mark.0)

-- a mark's path, if a file is there and the filter admits it
abbrev pub shown : Patterns → Option Mark → List (List ℕ)
shown wanted None = []
shown wanted (Some mark) = if mark.1 && admits wanted mark.0 then mark.0 ∷ [] else []

-- listed paths and one mark, where `rest` weaves listed paths with the later marks
abbrev pub woven_mark : Patterns → Mark → (List (List ℕ) → List (List ℕ)) → List (List ℕ) → List (List ℕ)
woven_mark wanted mark rest [] = shown wanted (Some mark) ++ rest []
woven_mark wanted mark rest (path ∷ listed) =
    let later : List (List ℕ) = woven_mark wanted mark rest listed in
    by_order (by_bytes path mark.0) (path ∷ later) later (shown wanted (Some mark) ++ rest (path ∷ listed))

-- in byte order, each listed path without a mark, and each mark's path that is shown
abbrev pub woven : Patterns → List (List ℕ) → List Mark → List (List ℕ)
woven wanted listed [] = listed
woven wanted listed (mark ∷ marks) = woven_mark wanted mark (λ paths. woven wanted paths marks) listed
