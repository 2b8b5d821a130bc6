-- Columns of ids: an id is five words of four bytes each, and each column holds one word
-- of each id.
use Rattle.std.specs.Prelude.{◌≡◌, ℕ, zero, suc, ◌*◌, List, [], ◌∷◌, ◌++◌, drop, map, slice_index, take}
use Rattle.std.specs.List.{All, flat_map}
use Rattle.std.specs.Int.{from_be_bytes, to_be_bytes, w32}
use Rattle.eden_ids.specs.declared.id.Id.{Id}

-- the n-th word of an id: four of its bytes, highest byte first
abbrev pub word : ℕ → Id → ℕ
word n id = from_be_bytes w32 (take 4 (drop (4 * n) id.0))

-- the id with these five words
abbrev pub id_of_words : ℕ → ℕ → ℕ → ℕ → ℕ → Id
id_of_words a b c d e = record { 0 = flat_map (to_be_bytes w32) (a ∷ b ∷ c ∷ d ∷ e ∷ []) }

-- an id is the one that its five words make up
unfoldable pub IsOfItsWords : Id → Type 0
IsOfItsWords id = id ≡ id_of_words (word 0 id) (word 1 id) (word 2 id) (word 3 id) (word 4 id)

-- the first `n` ids that five columns of words spell
abbrev pub rows : ℕ → List ℕ → List ℕ → List ℕ → List ℕ → List ℕ → List Id
rows zero a b c d e = []
rows (suc n) a b c d e =
    rows n a b c d e ++ id_of_words (slice_index a n) (slice_index b n) (slice_index c n) (slice_index d n) (slice_index e n) ∷ []

-- five columns hold the words of these ids: the n-th column holds the n-th words
abbrev pub AreColumns : List Id → List ℕ → List ℕ → List ℕ → List ℕ → List ℕ → Type 0
AreColumns ids a b c d e = (a ≡ map (word 0) ids) × (b ≡ map (word 1) ids) × (c ≡ map (word 2) ids) × (d ≡ map (word 3) ids)
    × (e ≡ map (word 4) ids) × All IsOfItsWords ids
