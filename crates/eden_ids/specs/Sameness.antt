-- Equality of byte strings and of ids.
use Rattle.std.specs.Prelude.{ℕ, Bool, List, nat_eq}
use Rattle.std.specs.Cmp.Lexicographic.{pointwise}
use Rattle.eden_ids.specs.declared.id.Id.{Id}

-- byte for byte
abbrev pub same_bytes : List ℕ → List ℕ → Bool
same_bytes a b = pointwise nat_eq a b

-- two ids are the same if their bytes are
abbrev pub same_id : Id → Id → Bool
same_id a b = same_bytes a.0 b.0
