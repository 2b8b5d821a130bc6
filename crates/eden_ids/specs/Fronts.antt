-- What is kept of a text or a list that is added to, even if memory runs out half-way.
use Rattle.std.specs.Prelude.{◌≡◌, ℕ, List, ◌++◌, length, take}

-- the text begins with these bytes
abbrev pub BeginsWith : List ℕ → List ℕ → Type 0
BeginsWith front text = take (length front) text ≡ front

-- the new text begins with everything that the old one begins with, the whole old text
-- too: nothing of it was lost
abbrev pub KeepsFront : List ℕ → List ℕ → Type 0
KeepsFront old new = (front : List ℕ) → BeginsWith front old → BeginsWith front new

-- the new list is the old one and some first ones of these
abbrev pub AddsSome : {X : Type 0} → List X → List X → List X → Type 0
AddsSome {X} more old new = (added : List X) × (left : List X) × (more ≡ added ++ left) × (new ≡ old ++ added)
