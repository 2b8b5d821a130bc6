-- There is one way to read a stream as objects.
use Rattle.std.specs.Prelude.{◌≡◌, ℕ, List, ◌++◌}
use Rattle.eden_objects.specs.Objects.{Held}
use Rattle.eden_batch.specs.Batches.{IsObject, written}

-- if the same bytes begin with two objects, these are the same, and so is what follows them
abbrev pub IsPrefixFree : Type 0
IsPrefixFree = (object other : Held) (more last : List ℕ) → IsObject object → IsObject other
    → written object ++ more ≡ written other ++ last → (object ≡ other) × (more ≡ last)
