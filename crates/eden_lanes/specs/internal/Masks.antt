-- Masks of a comparison of two vectors: a lane has all bits set, or none.
use Rattle.std.specs.Prelude.{ℕ, Bool, List, cond, map, nat_eq}
use Rattle.eden_ids.specs.declared.id.Id.{Id}
use Rattle.eden_ids.specs.Columns.{word}

-- the n-th words of two ids are the same
abbrev pub same_word : ℕ → Id → Id → Bool
same_word n x y = nat_eq (word n x) (word n y)

-- the lanes of a mask of 32 bits a lane
abbrev pub lanes_of : List Bool → List ℕ
lanes_of ms = map (λ t. cond t 4294967295 0) ms
