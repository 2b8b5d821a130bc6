-- Rows at which two lists differ. A row is an index into a list, counted from 0.
use Rattle.std.specs.Prelude.{ℕ, ◌+◌, Bool, List, [], ◌∷◌, ◌++◌, if◌then◌else◌, nat_eq}
use Rattle.eden_ids.specs.declared.id.Id.{Id}
use Rattle.eden_ids.specs.Sameness.{same_id}

-- the rows, counted from k, at which two lists differ
abbrev pub differ_from : {A : Type 0} → (A → A → Bool) → ℕ → List A → List A → List ℕ
differ_from same k [] ys = []
differ_from same k (x ∷ xs) [] = []
differ_from same k (x ∷ xs) (y ∷ ys) = (if same x y then [] else k ∷ []) ++ differ_from same (k + 1) xs ys

-- the rows at which two columns of ids differ
abbrev pub differing_ids : List Id → List Id → List ℕ
differing_ids a b = differ_from same_id 0 a b

-- the rows at which two columns of kinds differ; a kind is a byte
abbrev pub differing_kinds : List ℕ → List ℕ → List ℕ
differing_kinds a b = differ_from nat_eq 0 a b
