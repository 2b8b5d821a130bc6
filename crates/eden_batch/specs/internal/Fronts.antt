-- What a stream of objects begins with.
use Rattle.std.specs.Prelude.{ℕ, ◌≤◌, ◌<◌, List, length, take}
use Rattle.eden_batch.specs.Batches.{IsPartial}
use Rattle.eden_batch.specs.internal.Grammar.{IsFaulty, IsPrinted}
use Rattle.eden_batch.specs.declared.framing.ObjectFront.{ObjectFront}
use Rattle.eden_batch.specs.declared.framing.ObjectFront.TheVariants.{Whole, Partial, Faulty}

abbrev pub Begins : List ℕ → ObjectFront → Type 0
Begins bytes (Whole whole) = (0 < whole) × (whole ≤ length bytes) × IsPrinted (take whole bytes)
Begins bytes Partial = IsPartial bytes
Begins bytes (Faulty fault) = IsFaulty bytes fault
