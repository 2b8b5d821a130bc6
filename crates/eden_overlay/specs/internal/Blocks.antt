-- Entries in byte order of their paths, cut into blocks.
use Rattle.std.specs.Prelude.{ℕ, suc, ◌<◌, Bool, false, if◌then◌else◌, List, [], ◌∷◌, ◌++◌, length, take}
use Rattle.std.specs.Global.{Vec}
use Rattle.std.specs.List.{AllByRecursion}
use Rattle.std.specs.Ordering.{is_le}
use Rattle.eden_overlay.specs.Layers.{Entry, by_bytes}
use Rattle.eden_overlay.specs.Places.{place}

-- the entries of the blocks, one block after the other
abbrev pub flat : List (Vec Entry) → List Entry
flat [] = []
flat (b ∷ bs) = b.items ++ flat bs

-- each block has an entry
abbrev pub IsFilled : Vec Entry → Type 0
IsFilled b = 0 < length b.items

abbrev pub AllFilled : List (Vec Entry) → Type 0
AllFilled bs = AllByRecursion IsFilled bs

-- whether entries begin with a path or with one before it
abbrev pub begins_at_or_before : List ℕ → List Entry → Bool
begins_at_or_before path [] = false
begins_at_or_before path (e ∷ es) = is_le (by_bytes e.0 path)

-- how many blocks at the front begin so
abbrev pub begun : List ℕ → List (Vec Entry) → ℕ
begun path [] = 0
begun path (b ∷ bs) = if begins_at_or_before path b.items then suc (begun path bs) else 0

-- the place of the last block that begins so, or of the first block
abbrev pub block_for : List ℕ → List (Vec Entry) → ℕ
block_for path [] = 0
block_for path (b ∷ bs) = begun path bs

-- the entries at the front whose paths come before a path
abbrev pub before : List ℕ → List Entry → List Entry
before path es = take (place path es) es
