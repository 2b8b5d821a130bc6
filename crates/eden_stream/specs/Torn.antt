-- What a write has written that failed.
use Rattle.std.specs.Prelude.{ℕ, List, take, Option}
use Rattle.std.specs.Io.KnownBytes.{Appends}

-- some first bytes of the text were written
abbrev pub Tears : Option (List ℕ) → Option (List ℕ) → List ℕ → Type 0
Tears w0 w1 text = (taken : ℕ) × Appends w0 w1 (take taken text)
