-- An overlay to which the entries of another one are carried.
use Rattle.std.specs.Prelude.{ℕ, if◌then◌else◌, List}
use Rattle.std.specs.FinMap as fin
use Rattle.eden_ids.specs.Paths.{lies_below}
use Rattle.eden_overlay.specs.Carried.{carried}
use Rattle.eden_overlay.specs.Layers.{Entry, Layer}

-- an entry below the old path goes to the same place below the new one; any other entry below
-- the new path is dropped
abbrev pub put_carried : List ℕ → List ℕ → Layer → Entry → Layer
put_carried old new layer e =
    if lies_below e.0 old then fin.insert layer (carried old new e.0) e.1 else
    if lies_below e.0 new then layer else fin.insert layer e.0 e.1
